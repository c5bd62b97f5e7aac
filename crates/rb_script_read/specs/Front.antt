-- What is read from the front of a text, a value at a time.
use Rattle.std.specs.Prelude.{◌≡◌, ℕ, ◌<◌, List, length, Some, Result, IfOk}
use Rattle.std.specs.Borrow.{Bor}
use Rattle.toml_parser.specs.Lexical.{Read}
use Rattle.toml.specs.Data.{Members, no_members, member}
use Rattle.toml.specs.Tables.{Nodes, no_nodes, node, value}

-- if anything was read, it is what the grammar reads there, and the rest is what the grammar leaves
abbrev pub Takes : {A B E : Type 0} → (A → B) → Result (A × Bor (List ℕ)) E → Read B → Type 0
Takes f r expected = IfOk r (λ p. expected ≡ Some (f p.0, p.1.now))

-- less text is left
abbrev pub Shortens : {A E : Type 0} → List ℕ → Result (A × Bor (List ℕ)) E → Type 0
Shortens text r = IfOk r (λ p. length p.1.now < length text)

-- the nodes of a table all of whose keys hold values
abbrev pub values_of : Members → Nodes
values_of no_members = no_nodes
values_of (member k d ms) = node k (value d) (values_of ms)
