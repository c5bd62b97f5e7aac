-- Chains without headers, and headers that are left out: no answers make their sets, or too few validators signed them.
use Rattle.std.specs.Prelude.{◌-◌, ◌==◌, ◌&&◌, ℕ, Bool, if◌then◌else◌, List, [], Option, Some, None, length, option_map, slice_get}
use Rattle.std.specs.List.{list_any}
use Rattle.rb_import_setup.specs.declared.setup.ClientSetup.{ClientSetup}
use Rattle.rb_import_setup.specs.declared.setup.ImportSetup.{ImportSetup}
use Rattle.rb_import_check.specs.declared.chain.Commit.{Commit}
use Rattle.rb_import_check.specs.declared.chain.SeenChain.{SeenChain}
use Rattle.rb_import_merge.specs.declared.seen.SeenSetup.{SeenSetup}
use Rattle.rb_import_notices.specs.declared.notice.Notice.{Notice}
use Rattle.rb_import_notices.specs.declared.notice.Notice.TheVariants.{MissingHeaders, MissingSets, UnsignedHeaders}

-- ---- chains without headers

-- whether a client of the setup tracks the chain at a place
abbrev pub is_tracked : ImportSetup → ℕ → Bool
is_tracked setup chain = list_any (λ (c : ClientSetup). c.tracks == chain) setup.clients.items

abbrev pub commits_in : Option SeenChain → List Commit
commits_in (Some chain) = chain.commits.items
commits_in None = []

-- the headers that were seen of the chain at a place
abbrev pub commits_of : SeenSetup → ℕ → List Commit
commits_of seen chain = commits_in (slice_get seen.chains.items chain)

-- whether there are none
abbrev pub lacks_headers : SeenSetup → ℕ → Bool
lacks_headers seen chain = length (commits_of seen chain) == 0

-- a chain that is tracked and of which no header was seen
abbrev pub missing_headers : ImportSetup → SeenSetup → ℕ → Option Notice
missing_headers setup seen chain = if is_tracked setup chain && lacks_headers seen chain then Some (MissingHeaders chain) else None

-- ---- headers that are left out

-- how many headers these are, by rising height, and the height of the last; none where there are none
abbrev pub counted : List Commit → Option (ℕ × ℕ)
counted commits = option_map (λ (last : Commit). (length commits, last.header.now.height)) (slice_get commits (length commits - 1))

abbrev pub bare_of : Option SeenChain → List Commit
bare_of (Some chain) = chain.bare.items
bare_of None = []

-- a chain with headers whose sets no answers make: how many, and the greatest height of these
abbrev pub missing_sets : SeenSetup → ℕ → Option Notice
missing_sets seen chain = option_map (λ n. MissingSets chain n.0 n.1) (counted (bare_of (slice_get seen.chains.items chain)))

abbrev pub unsigned_of : Option SeenChain → List Commit
unsigned_of (Some chain) = chain.unsigned.items
unsigned_of None = []

-- a chain with headers that too few validators signed: how many, and the greatest height of these
abbrev pub unsigned_headers : SeenSetup → ℕ → Option Notice
unsigned_headers seen chain = option_map (λ n. UnsignedHeaders chain n.0 n.1) (counted (unsigned_of (slice_get seen.chains.items chain)))
