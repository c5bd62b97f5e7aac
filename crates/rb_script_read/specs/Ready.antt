-- Sets that are read before the other events of their turn.
use Rattle.std.specs.Prelude.{◌≡◌, ℕ, zero, suc, List, All, codes, Option, Some, None, Result, Ok, IsSomeAnd}
use Rattle.toml.specs.Data.{Data, Items, no_items, item}
use Rattle.rb_valset.specs.Validator.{Member}
use Rattle.rb_script_toml.specs.Faults.{Fault, Gives, ◌>>=◌}
use Rattle.rb_script_toml.specs.Fields.{Section, items, needs, optional, or_default, section_at}
use Rattle.rb_script_toml.specs.KeyPaths.{child, element}
use Rattle.rb_script_read.specs.Sets.{validators}
use Rattle.rb_script_read.specs.declared.ready.ReadySet.{ReadySet}

-- the validators of the event of this index at a path
abbrev pub validators_at : List ℕ → ℕ → Data → Result (List Member) Fault
validators_at path index d = section_at (element path index) d >>= needs (codes "validators") validators

abbrev pub item_at : Items → ℕ → Option Data
item_at no_items place = None
item_at (item d ds) zero = Some d
item_at (item d ds) (suc place) = item_at ds place

-- it is the set of one of these events at a path
abbrev pub IsReady : List ℕ → Items → ReadySet → Type 0
IsReady path events r = IsSomeAnd (item_at events r.place) (λ d. Gives (λ s. s) r.set (validators_at path r.place d))

unfoldable pub AreReady : List ℕ → Items → List ReadySet → Type 0
AreReady path events sets = All (IsReady path events) sets

-- the events that a turn lists
abbrev pub events_of : Section → Result Items Fault
events_of s = or_default no_items items (optional (codes "event") s)

-- they are sets of the events of a turn
unfoldable pub AreReadyIn : Section → List ReadySet → Type 0
AreReadyIn s sets = (events : Items) → events_of s ≡ Ok events → AreReady (child s.path (codes "event")) events sets

-- they are sets of the events of the turn of this index
unfoldable pub AreReadyAt : ℕ → Data → List ReadySet → Type 0
AreReadyAt index turn sets = (s : Section) → section_at (element (codes "turn") index) turn ≡ Ok s → AreReadyIn s sets
