use Rattle.std.proofs.Common.{◌-◌}
use Rattle.rb_explain_plan.specs.Halves.{IsHalved}
use Rattle.rb_explain_plan.proofs.power.threshold.Given as goal

abbrev pub invariant-halves : goal.invariant-halves
invariant-halves l = IsHalved l.total l.within l.beyond l.fraction

abbrev pub decreases-halves : goal.decreases-halves
decreases-halves l = l.beyond - l.within
