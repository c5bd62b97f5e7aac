use Rattle.std.proofs.Common.{ℕ, ◌<◌, ◌≤◌, length}
use denote.Text.{Utf8}
use denote.Shadow.{shadow}
use Rattle.toml.specs.Data.{no_items}
use Rattle.toml.specs.View.{array_view}
use Rattle.toml.specs.Tables.{Nodes, no_nodes}
use Rattle.rb_script_read.specs.Plain.{Leaves, in_array}
use Rattle.rb_script_read.proofs.plain.read_array.Given as goal

abbrev pub invariant-tables : goal.invariant-tables
invariant-tables l =
    shadow (Utf8 l.rest) × (length l.rest ≤ length l.fn.s)
    × ((root : Nodes) (n : ℕ) → length l.fn.s < n → Leaves n (in_array l.key root no_items no_nodes) l.fn.s (in_array l.key root (array_view l.tables) no_nodes) l.rest)

abbrev pub decreases-tables : goal.decreases-tables
decreases-tables l = length l.rest
