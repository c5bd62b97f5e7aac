-- Refusals as lines and as JSON (own choice).
use Rattle.std.specs.Prelude.{ℕ, List, [], ◌∷◌, ◌++◌, codes, Option, Some, None}
use Rattle.rb_script_toml.specs.Faults.{Fault, fault_line, number_of, name_of}
use Rattle.rb_script_text.specs.Json.{Json, number, string, escaped, object, ◌is◌}
use Rattle.rb_follow.specs.Followers.{Refusal, faulty, out_of_order}

-- as the line of a fault
abbrev pub refusal_line : Refusal → List ℕ
refusal_line (faulty n fault) = fault_line fault
refusal_line (out_of_order due) = codes "fault 1035 OutOfOrder at turn"

-- what is wrong, and where
abbrev pub named_members : Fault → List (List ℕ × Json)
named_members fault = codes "name" is string (name_of fault.name) ∷ codes "path" is string (escaped fault.path) ∷ []

-- the number of the document, if it has one
abbrev pub turn_members : Option ℕ → List (List ℕ × Json)
turn_members None = []
turn_members (Some n) = codes "turn" is number n ∷ []

abbrev pub placed_members : Option ℕ → Fault → List (List ℕ × Json)
placed_members n fault = named_members fault ++ turn_members n

-- a fault as an object
abbrev pub fault_json : Option ℕ → Fault → Json
fault_json n fault = object (codes "fault" is number (number_of fault.name) ∷ placed_members n fault)

-- that a document begins with another number than this one, which is due
abbrev pub order_members : ℕ → List (List ℕ × Json)
order_members due = codes "name" is string (codes "OutOfOrder") ∷ codes "path" is string (codes "turn") ∷ codes "turn" is number due ∷ []

-- a refusal as an object
abbrev pub refusal_json : Refusal → Json
refusal_json (faulty n fault) = fault_json n fault
refusal_json (out_of_order due) = object (codes "fault" is number 1035 ∷ order_members due)
