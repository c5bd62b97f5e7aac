use Rattle.std.proofs.Common.{◌≡◌, ℕ, ◌+◌, ◌*◌, ◌<◌, ◌≤◌, length}
use denote.Text.{Utf8}
use denote.Shadow.{shadow}
use Rattle.toml.specs.Data.{no_items}
use Rattle.toml.specs.View.{array_view, table_view}
use Rattle.toml.specs.Tables.{no_nodes}
use Rattle.toml.specs.Parse as grammar
use Rattle.rb_script_read.specs.Front.{values_of}
use Rattle.rb_script_read.proofs.front.+value.Given as goal

abbrev pub decreases-value : goal.decreases-value
decreases-value v = v.depth * 2 + 1

abbrev pub decreases-elements : goal.decreases-elements
decreases-elements e = e.depth * 2 + 2

abbrev pub decreases-pairs : goal.decreases-pairs
decreases-pairs p = p.depth * 2 + 2

-- what is left of the text is an end of it, and has the other elements
abbrev pub invariant-elements-elements : goal.invariant-elements-elements
invariant-elements-elements e = shadow (Utf8 e.behind) × (length e.behind ≤ length e.fn.text)
    × ((n : ℕ) → length e.fn.text < n → (left : ℕ) × (length e.behind < left)
    × (grammar.items (grammar.val e.fn.depth) n no_items e.fn.text ≡ grammar.items (grammar.val e.fn.depth) left (array_view e.array) e.behind))

abbrev pub decreases-elements-elements : goal.decreases-elements-elements
decreases-elements-elements e = length e.behind

abbrev pub invariant-pairs-pairs : goal.invariant-pairs-pairs
invariant-pairs-pairs p = shadow (Utf8 p.behind) × (length p.behind ≤ length p.fn.text)
    × ((n : ℕ) → length p.fn.text < n → (left : ℕ) × (length p.behind < left)
    × (grammar.members (grammar.val p.fn.depth) n no_nodes p.fn.text ≡ grammar.members (grammar.val p.fn.depth) left (values_of (table_view p.table)) p.behind))

abbrev pub decreases-pairs-pairs : goal.decreases-pairs-pairs
decreases-pairs-pairs p = length p.behind
