use Rattle.std.proofs.Common.{◌≡◌, ℕ, List, [], ◌<◌, ◌≤◌, length}
use denote.Text.{Utf8}
use denote.Shadow.{shadow}
use Rattle.toml.specs.View.{table_view}
use Rattle.toml.specs.Tables.{Nodes, no_nodes, close}
use Rattle.rb_script_read.specs.Plain.{Leaves}
use Rattle.rb_script_read.proofs.plain.read_root.Given as goal

abbrev pub invariant-arrays : goal.invariant-arrays
invariant-arrays l =
    shadow (Utf8 l.rest) × (length l.rest ≤ length l.fn.s)
    × ((n : ℕ) → length l.fn.s < n → (root : Nodes) × (path : List (List ℕ)) × Leaves n (no_nodes, []) l.fn.s (root, path) l.rest × (close root ≡ table_view l.keys))

abbrev pub decreases-arrays : goal.decreases-arrays
decreases-arrays l = length l.rest
