-- About how many bytes of a script each client brings.
use Rattle.std.specs.Prelude.{◌≡◌, ◌≤◌, ◌+◌, ◌*◌, ◌==◌, ◌||◌, ◌⊎◌, ℕ, Bool, if◌then◌else◌, List, [], Vec, Option, Some, None, All, Contains, codes, length, map, slice_get, sum}
use Rattle.std.specs.Global.{Global}
use Rattle.std.specs.List.{enumerate_from}
use Rattle.rb_import_setup.specs.declared.setup.ClientSetup.{ClientSetup}
use Rattle.rb_import_setup.specs.declared.setup.PathSetup.{PathSetup}
use Rattle.rb_import_setup.specs.declared.setup.ImportSetup.{ImportSetup}
use Rattle.rb_import_check.specs.declared.chain.Commit.{Commit}
use Rattle.rb_import_check.specs.declared.chain.SeenChain.{SeenChain}
use Rattle.rb_import_check.specs.declared.client.Stored.{Stored}
use Rattle.rb_import_check.specs.declared.sets.SeenSet.{SeenSet}
use Rattle.rb_import_merge.specs.declared.kept.KeptSets.{KeptSets}
use Rattle.rb_import_merge.specs.declared.path.SeenPath.{SeenPath}
use Rattle.rb_import_merge.specs.declared.seen.SeenSetup.{SeenSetup}
use Rattle.rb_import.specs.declared.shares.Share.{Share}
pub use Rattle.rb_import.specs.Tallies.{capped}

-- the sum of sizes
abbrev pub total : List ℕ → ℕ
total sizes = capped (sum sizes)

-- ---- chains

abbrev set_size : Option SeenSet → ℕ
set_size (Some s) = capped (80 * length s.set)
set_size None = 0

-- the size of a chain's set at a place: 80 bytes for each member
abbrev pub set_size_at : SeenChain → ℕ → ℕ
set_size_at chain place = set_size (slice_get chain.sets.sets.items place)

abbrev pub sets_size : SeenChain → KeptSets → ℕ
sets_size chain kept = total (map (set_size_at chain) kept.places.items)

-- the size of a header: 300 bytes, and one for each vote
abbrev pub header_size : Commit → ℕ
header_size c = capped (300 + length c.header.now.signatures.items)

abbrev pub headers_size : SeenChain → ℕ
headers_size chain = total (map header_size chain.commits.items)

abbrev pub chain_size_in : Option SeenChain → Option KeptSets → ℕ
chain_size_in (Some chain) (Some kept) = capped (sets_size chain kept + headers_size chain)
chain_size_in chain kept = 0

-- the size of what is written of the chain at a place: its sets and its headers
abbrev pub chain_size : SeenSetup → ℕ → ℕ
chain_size seen place = chain_size_in (slice_get seen.chains.items place) (slice_get seen.sets.items place)

-- ---- clients

abbrev states_in : Option (Vec Stored Global) → ℕ
states_in (Some records) = capped (250 * length records.items)
states_in None = 0

-- the size of the consensus states of the client at a place: 250 bytes for each
abbrev pub states_size : SeenSetup → ℕ → ℕ
states_size seen place = states_in (slice_get seen.records.items place)

-- ---- paths

-- whether the client at a place serves a path
abbrev pub serves : ℕ → PathSetup → Bool
serves place p = p.config.forward == place || p.config.back == place

abbrev packets_in : Option SeenPath → Bool → ℕ
packets_in (Some seen) served = if served then capped (100 * length seen.packets.items) else 0
packets_in None served = 0

-- the size of the packets of a path, if the client at a place serves it: 100 bytes for each event
abbrev pub path_size : SeenSetup → ℕ → ℕ × PathSetup → ℕ
path_size seen place p = packets_in (slice_get seen.paths.items p.0) (serves place p.1)

abbrev pub paths_size : ImportSetup → SeenSetup → ℕ → ℕ
paths_size setup seen place = total (map (path_size seen place) (enumerate_from 0 setup.paths.items))

-- ---- shares

-- the size of what a client brings: its consensus states, what is written of the chain that it tracks, and the packets of the paths that it serves
abbrev pub client_size : ImportSetup → SeenSetup → ℕ → ClientSetup → ℕ
client_size setup seen place c = capped (capped (states_size seen place + chain_size seen c.tracks) + paths_size setup seen place)

-- the identifier of a client, and the size of what it brings
abbrev pub Sized : Type 0
Sized = List ℕ × ℕ

abbrev pub shown : Share → Sized
shown s = (s.id.now, s.size)

abbrev pub share_of : ImportSetup → SeenSetup → ℕ × ClientSetup → Sized
share_of setup seen p = (p.1.id, client_size setup seen p.0 p.1)

-- how much each client brings
abbrev pub shares_of : ImportSetup → SeenSetup → List Sized
shares_of setup seen = map (share_of setup seen) (enumerate_from 0 setup.clients.items)

-- the identifier of one of these that is no less than any other
abbrev pub IsLargestIn : List Sized → List ℕ → Type 0
IsLargestIn shares id = (s : Sized) × Contains shares s × (s.0 ≡ id) × All (λ (t : Sized). t.1 ≤ s.1) shares

-- the identifier of a client that brings no less than any other; `-`, which stands for the script, where there is no client
unfoldable pub IsLargest : ImportSetup → SeenSetup → List ℕ → Type 0
IsLargest setup seen id = IsLargestIn (shares_of setup seen) id ⊎ ((setup.clients.items ≡ []) × (id ≡ codes "-"))
