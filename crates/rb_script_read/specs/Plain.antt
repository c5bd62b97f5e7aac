-- A plain script, read an event at a time: what its lines make of the document, and of each turn.
use Rattle.std.specs.Prelude.{◌≡◌, ℕ, ◌<◌, true, List, [], ◌∷◌, length, codes, Some, None, Ok, if◌then◌else◌}
use Rattle.std.specs.declared.alloc.Global.{Global}
use Rattle.toml_parser.specs.Lexical.{skip_ws}
use Rattle.toml_parser.specs.Strings.{recursion_limit}
use Rattle.toml.specs.Data.{Data, array, Items, no_items, Members, no_members, member, same_key}
use Rattle.toml.specs.Tables.{Nodes, value, open_array, get_node, insert, replace, Document, define, key_value}
use Rattle.toml.specs.Parse.{val, ends_line, lines}
use Rattle.rb_script_types.specs.Config.{Config}
use Rattle.rb_script_types.specs.declared.observation.Observation.{Observation}
use Rattle.rb_script_toml.specs.Fields.{Section, in_sequence}
use Rattle.rb_script_read.specs.Events.{event}
use Rattle.rb_script_read.specs.Front.{values_of}
use Rattle.rb_script_read.specs.Names.{Names}

-- lines up to the rest turn one document into the next
abbrev pub Leaves : ℕ → Document → List ℕ → Document → List ℕ → Type 0
Leaves n doc text next rest = (m : ℕ) × (length rest < m) × (lines n doc text ≡ lines m next rest)

-- the document in a table under a header in double brackets after others, with the keys of the text and so far of this table
abbrev pub in_array : List ℕ → Nodes → Items → Nodes → Document
in_array key root done last = (insert key (open_array done last) root, key ∷ [])

abbrev pub in_turn : Nodes → Items → Nodes → Document
in_turn root done last = in_array (codes "turn") root done last

-- a document with a table in which a new key is defined as in a table alone
abbrev pub TakesPairs : (Nodes → Document) → Type 0
TakesPairs within = (key : List ℕ) (d : Data) (ns new : Nodes) → get_node key ns ≡ None → new ≡ insert key (value d) ns
    → define (within ns) (([], key), key_value d) ≡ Some (within new)

-- a new key of a table, with the value that a line begins with, which ends there
abbrev pub IsPair : List ℕ → List ℕ → List ℕ → Members → Members → Type 0
IsPair key text rest old new =
    (d : Data) × (val recursion_limit text ≡ Some (d, rest)) × (ends_line (skip_ws rest) ≡ true)
    × (get_node key (values_of old) ≡ None) × (values_of new ≡ insert key (value d) (values_of old))

-- the keys of a turn, whose events these are
abbrev pub around : Items → Members → Nodes
around ds ms = replace (codes "event") (value (array ds)) (values_of ms)

-- events that were read after others had given names, and none where a turn has no key for them
pub record AreRead (c : Config) (path : List ℕ) (names : Names) (ms : Members) (ds : Items) (events : List (Observation Global)) (after : Names) : Type 0 where
  pub listed : get_node (codes "event") (values_of ms) ≡ None → ds ≡ no_items
  pub read : in_sequence (event c) path names [] ds ≡ Ok (events, after)

-- a key of a turn was read, up to the end of its line
abbrev pub IsKeyRead : Config → List ℕ → Names → List ℕ → List ℕ → List ℕ → Nodes → Members → List (Observation Global) → Names → Type 0
IsKeyRead c path names key text rest old new events after =
    (d : Data) × (es : Items) × (val recursion_limit text ≡ Some (d, rest)) × (ends_line (skip_ws rest) ≡ true)
    × (get_node key old ≡ None) × (around es new ≡ insert key (value d) old) × AreRead c path names new es events after

-- another value at a key that the members have
abbrev pub set_member : List ℕ → Data → Members → Members
set_member k d no_members = no_members
set_member k d (member l e ms) = if same_key k l then member l d ms else member l e (set_member k d ms)

-- a turn whose events these are
abbrev pub with_events : Items → Section → Section
with_events ds s = record { path = s.path; members = set_member (codes "event") (array ds) s.members }
