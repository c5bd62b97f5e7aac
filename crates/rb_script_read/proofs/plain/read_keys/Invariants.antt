use Rattle.std.proofs.Common.{ℕ, ◌<◌, ◌≤◌, length}
use denote.Text.{Utf8}
use denote.Shadow.{shadow}
use Rattle.toml.specs.View.{table_view}
use Rattle.toml.specs.Tables.{Document, Nodes, no_nodes}
use Rattle.rb_script_read.specs.Front.{values_of}
use Rattle.rb_script_read.specs.Plain.{Leaves, TakesPairs}
use Rattle.rb_script_read.proofs.plain.read_keys.Given as goal

abbrev pub invariant-lines : goal.invariant-lines
invariant-lines l =
    shadow (Utf8 l.rest) × (length l.rest ≤ length l.fn.s)
    × ((within : Nodes → Document) (n : ℕ) → TakesPairs within → length l.fn.s < n → Leaves n (within no_nodes) l.fn.s (within (values_of (table_view l.table))) l.rest)

abbrev pub decreases-lines : goal.decreases-lines
decreases-lines l = length l.rest
