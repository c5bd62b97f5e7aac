-- What there is no room for: headers and sets of a chain, records of a client, packets of a path.
use Rattle.std.specs.Prelude.{◌==◌, ℕ, Bool, not, if◌then◌else◌, Option, Some, None, count_by, get_or, option_map, slice_get}
use Rattle.rb_import_check.specs.declared.chain.Commit.{Commit}
use Rattle.rb_import_merge.specs.declared.path.SeenPath.{SeenPath}
use Rattle.rb_import_merge.specs.declared.seen.SeenSetup.{SeenSetup}
use Rattle.rb_import_merge.specs.declared.surplus.Surplus.{Surplus}
use Rattle.rb_import_merge.specs.Seen.{is_written, left_out, sets_left_out}
use Rattle.rb_import_notices.specs.declared.notice.Notice.{Notice}
use Rattle.rb_import_notices.specs.declared.notice.Notice.TheVariants.{TooManyHeaders, TooManyPackets, TooManyRecords, TooManySets}
use Rattle.rb_import_notices.specs.Headers.{commits_of}

-- a notice with a count, where that isn't 0
abbrev if_some : (ℕ → Notice) → ℕ → Option Notice
if_some notice count = if count == 0 then None else Some (notice count)

-- a chain of which headers are left out, and how many
abbrev pub too_many_headers : SeenSetup → ℕ → Option Notice
too_many_headers seen chain = if_some (TooManyHeaders chain) (get_or seen.surplus.items chain 0)

-- whether the set of a commit's header isn't written of the chain at a place
abbrev pub lacks_set : SeenSetup → ℕ → Commit → Bool
lacks_set seen place c = not (is_written (slice_get seen.chains.items place) (slice_get seen.sets.items place) c.header.now.set)

-- how many headers of the chain at a place aren't written, since their sets aren't
abbrev pub headers_without_set : SeenSetup → ℕ → ℕ
headers_without_set seen place = count_by (lacks_set seen place) (commits_of seen place)

-- a chain of which sets are left out: how many, and how many headers with them
abbrev pub too_many_sets : SeenSetup → ℕ → Option Notice
too_many_sets seen chain = if_some (λ left_out. TooManySets chain left_out (headers_without_set seen chain)) (sets_left_out seen.sets.items chain)

-- a client of which stored records are left out, and how many
abbrev pub too_many_records : SeenSetup → ℕ → Option Notice
too_many_records seen client = if_some (TooManyRecords client) (left_out seen.clients.items seen.records.items client)

abbrev surplus_in : Option SeenPath → Option Surplus
surplus_in (Some path) = path.surplus
surplus_in None = None

-- a path that has no room for some of its packets, and these
abbrev pub too_many_packets : SeenSetup → ℕ → Option Notice
too_many_packets seen path = option_map (TooManyPackets path) (surplus_in (slice_get seen.paths.items path))
