use Rattle.std.proofs.Common.{ap, subst, arith, ◌∙◌}
use Rattle.rb_explain_plan.specs.Greatest.{most_members}
use Rattle.rb_explain_plan.proofs.Bounds.{AreSmall, small_none, small_more, small_all, most_none, most_more, most_all}
use Rattle.rb_explain_plan.proofs.fewest_updates.most_members.Goals as goal

pub loop-set-init : goal.loop-set-init
loop-set-init g c = record { greatest = most_none c.sets-sets.result.now; most = small_none c.sets-sets.result.now; range = omega arith }

pub loop-set-preserved : goal.loop-set-preserved
loop-set-preserved g c = record {
  greatest = most_more c.sets-sets.result.now c.loop-set.set-index c.set-item.result c.loop-set.most c.or_size-most.result c.loop-set-test.true c.set-item.is c.or_size-most.ensures.greater
      c.loop-set.invariant.greatest;
  most = small_more c.sets-sets.result.now c.loop-set.set-index c.set-item.result c.loop-set.most c.or_size-most.result c.loop-set-test.true c.set-item.is c.or_size-most.ensures.most
      c.or_size-most.ensures.size c.loop-set.invariant.most;
  range = c.or_size-most.ensures.range c.loop-set.invariant.range;
}

pub returns-clause-greatest : goal.returns-clause-greatest
returns-clause-greatest g c =
    most_all c.sets-sets.result.now c.loop-set.set-index c.loop-set.most (omega arith) c.loop-set.invariant.greatest ∙ ap most_members c.sets-sets.ensures.value

pub returns-clause-most : goal.returns-clause-most
returns-clause-most g c =
    subst (AreSmall c.loop-set.most) c.sets-sets.ensures.value (small_all c.sets-sets.result.now c.loop-set.set-index c.loop-set.most (omega arith) c.loop-set.invariant.most)

pub returns-clause-range : goal.returns-clause-range
returns-clause-range g c = c.loop-set.invariant.range
