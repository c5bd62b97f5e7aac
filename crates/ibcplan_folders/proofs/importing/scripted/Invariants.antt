use Rattle.std.proofs.Common.{◌≡◌, true, false}
use Rattle.std.specs.Prelude.{is_some}
use Rattle.ibcplan_folders.specs.LeftOut.{object_count}
use Rattle.ibcplan_folders.specs.Leavings.{IsLeft}
use Rattle.ibcplan_folders.proofs.importing.scripted.Given as goal

-- the fleet is the whole one where nothing is left out, and what was left out stays so
abbrev pub invariant-rounds : goal.invariant-rounds
invariant-rounds l = record {
  whole : is_some l.left_out.first ≡ false → l.fleet ≡ l.fn.fleet;
  left : IsLeft l.fn.fleet l.fleet;
  in_part : is_some l.fn.left_out.first ≡ true → is_some l.left_out.first ≡ true;
}

abbrev pub decreases-rounds : goal.decreases-rounds
decreases-rounds l = object_count l.fleet
