use Rattle.std.proofs.Common.{◌≡◌, map, drop}
use Rattle.rb_ics23.specs.Proof.{inner_view}
use Rattle.rb_ics23.specs.Neighbours.{is_left_most}
use Rattle.rb_ics23.proofs.neighbours.is_left_most.Given as goal

-- the steps that are left decide
abbrev pub invariant-loop-step : goal.invariant-loop-step
invariant-loop-step l =
    is_left_most l.spec (map inner_view (drop l.step-index l.path)) ≡ is_left_most l.spec (map inner_view l.path)
