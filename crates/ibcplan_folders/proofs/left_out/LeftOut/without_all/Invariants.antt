use Rattle.std.proofs.Common.{◌≡◌, ◌<◌, true}
use Rattle.std.specs.Prelude.{is_some}
use Rattle.ibcplan_folders.specs.LeftOut.{object_count}
use Rattle.ibcplan_folders.specs.Leavings.{IsLeft}
use Rattle.ibcplan_folders.proofs.left_out.LeftOut.without_all.Given as goal

-- something is left out, and the first failure of it is known
abbrev pub invariant-loop-failure : goal.invariant-loop-failure
invariant-loop-failure l = record {
  fewer : object_count l.rest < object_count l.fn.fleet;
  told : is_some l.self.first ≡ true;
  left : IsLeft l.fn.fleet l.rest;
}
