use Rattle.std.proofs.Common.{◌≡◌, length}
use Rattle.std.specs.List.{items_where_true}
use Rattle.ibcplan_folders.proofs.left_out.left.Given as goal

-- these are those of the items so far that stay
abbrev pub invariant-loop-item : goal.invariant-loop-item
invariant-loop-item g l = record {
  place : l.place ≡ length l.yielded;
  left : l.left.items ≡ items_where_true l.stay l.yielded;
}
