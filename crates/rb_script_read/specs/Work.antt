-- How much the turns of a script ask for.
use Rattle.std.specs.Prelude.{ℕ, ◌+◌, ◌*◌, ◌/◌, min, max, nat_le, nat_lt, ◌&&◌, Bool, if◌then◌else◌, List, [], ◌∷◌, length, get_or, set, replicate, codes, Result, Ok}
use Rattle.std.specs.declared.alloc.Global.{Global}
use Rattle.rb_base.specs.declared.votes.CarriedVotes.{CarriedVotes}
use Rattle.rb_base.specs.declared.votes.CarriedVotes.TheVariants.{Commit, Cast, Needed}
use Rattle.rb_book.specs.Book.{max_sets}
use Rattle.rb_script_types.specs.Config.{Config}
use Rattle.rb_script_types.specs.Script.{Script, Turn}
use Rattle.rb_script_types.specs.declared.config.ClientConfig.{ClientConfig}
use Rattle.rb_script_types.specs.declared.config.PathConfig.{PathConfig}
use Rattle.rb_script_types.specs.declared.observation.Observation.{Observation}
use Rattle.rb_script_types.specs.declared.observation.Observation.TheVariants.{SetSeen, HeaderSeen, StoredSeen, Sent, Received, AckWritten, Cleared, Closed}
use Rattle.rb_script_toml.specs.declared.fault.FaultName.TheVariants.{TooMuchToPlan}
use Rattle.rb_script_toml.specs.Faults.{Fault, ◌>>=◌, check}
use Rattle.rb_script_toml.specs.KeyPaths.{element}
use Rattle.rb_script_read.specs.Events.{tracked_by}
use Rattle.rb_script_read.specs.declared.work.StoreSize.{StoreSize}
use Rattle.rb_script_read.specs.declared.work.Work.{Work as CodeWork}

-- the most that all turns may ask for (own choice): units of work, each of some ten nanoseconds, and units of space, each of 16 bytes
abbrev pub most_work : ℕ
most_work = 1073741824

abbrev pub most_space : ℕ
most_space = 50331648

-- a count goes no further than this
abbrev pub counted : ℕ → ℕ → ℕ
counted count more = min (count + more) 4294967296

-- how large the light store of each chain can be, how many packets were sent, and what the turns so far ask for
pub record Work : Type 0 where
  pub stores : List StoreSize
  pub sent : ℕ
  pub work : ℕ
  pub space : ℕ

abbrev pub work_view : CodeWork → Work
work_view w = record { stores = w.stores.items; sent = w.sent; work = w.work; space = w.space }

abbrev pub no_store : StoreSize
no_store = record { records = 0; sets = 0; sums = 0; top = 0; votes = 0 }

-- before the first turn
abbrev pub no_work : ℕ → Work
no_work chains = record { stores = replicate chains no_store; sent = 0; work = 0; space = 0 }

abbrev pub store_of : Work → ℕ → StoreSize
store_of w chain = get_or w.stores chain no_store

-- a set more, of so many members: a sum over them is a unit of work for each 32
abbrev pub larger_by_set : ℕ → StoreSize → StoreSize
larger_by_set members s = record s { sets = min (s.sets + 1) max_sets; sums = counted s.sums (members / 32) }

-- a record more at a height, of so many at most, whose header has so many votes
abbrev pub larger_by_record : ℕ → ℕ → ℕ → StoreSize → StoreSize
larger_by_record limit height votes s = record s { records = min (s.records + 1) limit; top = max s.top height; votes = counted s.votes votes }

-- the records that can have to make room for one at a height, 4 units of work each
abbrev pub moved_for : ℕ → StoreSize → ℕ
moved_for height s = if nat_lt height s.top then s.records * 4 else 0

abbrev pub with_set : ℕ → ℕ → Work → Work
with_set chain members w = record w { stores = set w.stores chain (larger_by_set members (store_of w chain)) }

abbrev pub with_record : ℕ → ℕ → ℕ → ℕ → Work → Work
with_record limit chain height votes w = record w {
  stores = set w.stores chain (larger_by_record limit height votes (store_of w chain));
  work = counted w.work (moved_for height (store_of w chain));
}

-- with so many records at most, and these clients
abbrev pub after_event : {A : Type 0} → ℕ → List ClientConfig → Work → Observation A → Work
after_event limit clients w (SetSeen chain members) = with_set chain (length members) w
after_event limit clients w (HeaderSeen chain header) = with_record limit chain header.height (length header.votes) w
after_event limit clients w (StoredSeen client height r) = with_record limit (tracked_by clients client) height 0 w
after_event limit clients w (Sent path sequence block timeout_height timeout_time) = record w { sent = counted w.sent 1 }
after_event limit clients w (Received path sequence block) = w
after_event limit clients w (AckWritten path sequence block) = w
after_event limit clients w (Cleared path sequence) = w
after_event limit clients w (Closed path) = w

abbrev pub after_events : {A : Type 0} → ℕ → List ClientConfig → Work → List (Observation A) → Work
after_events limit clients w [] = w
after_events limit clients w (e ∷ es) = after_events limit clients (after_event limit clients w e) es

abbrev pub after_events_of : {A : Type 0} → ℕ → List ClientConfig → Work → List (Turn A) → Work
after_events_of limit clients w [] = w
after_events_of limit clients w (t ∷ ts) = after_events_of limit clients (after_events limit clients w t.events) ts

-- how large the light store of each chain can be after all turns
abbrev pub stores_of : {A : Type 0} → Script A → List StoreSize
stores_of s = (after_events_of s.config.limit s.config.clients (no_work (length s.config.chains)) s.turns).stores

-- a chain's step table can be made anew in each turn: a sum over each set for each record
abbrev pub sums_after : ℕ → List StoreSize → ℕ
sums_after n [] = n
sums_after n (s ∷ ss) = sums_after (counted n (s.records * s.sums)) ss

abbrev pub after_tables : Work → Work
after_tables w = record w { work = sums_after w.work w.stores }

-- the work of the votes where updates carry those that they need: 60 for each vote and 50 for each record, for each set, and ten times for the updates
abbrev pub walked : CarriedVotes → StoreSize → ℕ
walked Commit s = 0
walked Cast s = 0
walked Needed s = (s.votes * 60 + s.records * 50) * (s.sets + 10)

-- the space of the votes that updates carry, where these carry those that they need
abbrev pub carried : CarriedVotes → StoreSize → ℕ
carried Commit s = 0
carried Cast s = 0
carried Needed s = s.votes * 2

-- the work of a plan for a client whose updates carry these votes
abbrev pub plan_work : CarriedVotes → StoreSize → ℕ
plan_work votes s = counted (counted 0 (s.records * (s.sets * 2 + 51))) (walked votes s)

-- a client's answer can have a label of each record of its chain, with a step to it from a record for each set, and an update to each
abbrev pub after_client : Work → ClientConfig → Work
after_client w k = record w {
  work = counted (counted w.work ((store_of w k.tracks).records * ((store_of w k.tracks).sets * 2 + 51))) (walked k.options.votes (store_of w k.tracks));
  space = counted (counted w.space ((store_of w k.tracks).records * 3)) (carried k.options.votes (store_of w k.tracks));
}

abbrev pub after_clients : Work → List ClientConfig → Work
after_clients w [] = w
after_clients w (k ∷ ks) = after_clients (after_client w k) ks

-- a path's scan goes over the records of its destination
abbrev pub after_path : Work → PathConfig → Work
after_path w p = record w { work = counted w.work ((store_of w p.destination).records * 3) }

abbrev pub after_paths : Work → List PathConfig → Work
after_paths w [] = w
after_paths w (p ∷ ps) = after_paths (after_path w p) ps

-- and over its packets, each of which can have a message
abbrev pub after_packets : Work → Work
after_packets w = record w { work = counted w.work (w.sent * 36); space = counted w.space (w.sent * 13) }

abbrev pub after_turn : {A : Type 0} → Config → Work → List (Observation A) → Work
after_turn c w es = after_packets (after_paths (after_clients (after_tables (after_events c.limit c.clients w es)) c.clients) c.paths)

-- a chain's step table can have a number for each record and set, 2 units of space each
abbrev pub numbers_after : ℕ → List StoreSize → ℕ
numbers_after n [] = n
numbers_after n (s ∷ ss) = numbers_after (counted n (s.records * s.sets * 2)) ss

abbrev pub is_little : Work → Bool
is_little w = nat_le w.work most_work && nat_le (numbers_after w.space w.stores) most_space

-- the fault of the first turn, from this number on, up to which the turns ask for more than they may
abbrev pub little_from : Config → Work → ℕ → List (Turn Global) → Result (Unit {0}) Fault
little_from c w index [] = Ok tt
little_from c w index (t ∷ ts) =
    check (is_little (after_turn c w t.events)) TooMuchToPlan (element (codes "turn") index) >>= λ u. little_from c (after_turn c w t.events) (index + 1) ts

-- the fault of the first turn of all
abbrev pub little : Config → List (Turn Global) → Result (Unit {0}) Fault
little c ts = little_from c (no_work (length c.chains)) 0 ts
