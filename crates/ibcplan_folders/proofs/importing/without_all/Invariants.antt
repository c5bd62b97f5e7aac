use Rattle.ibcplan_folders.specs.Leavings.{IsLeftOf, StaysWhole, failed}
use Rattle.ibcplan_folders.proofs.importing.without_all.Given as goal

-- what goes with the failures so far is left out, and the fleet is the whole one where nothing is
abbrev pub invariant-loop-failure : goal.invariant-loop-failure
invariant-loop-failure l = record {
  left : IsLeftOf (failed l.yielded) l.fn.fleet l.fleet;
  whole : StaysWhole l.fn.left_out l.left_out l.fn.fleet.setup l.fleet.setup;
}
