use Rattle.std.proofs.Common.{◌≡◌, ◌≤◌, take}
use Rattle.rb_valset.specs.ValidatorSet.{max_members}
use Rattle.rb_explain_plan.specs.Greatest.{most_members}
use Rattle.rb_explain_plan.proofs.Bounds.{AreSmall}
use Rattle.rb_explain_plan.proofs.fewest_updates.most_members.Given as goal

abbrev pub invariant-loop-set : goal.invariant-loop-set
invariant-loop-set g l = record {
  greatest : l.most ≡ most_members (take l.set-index l.sets);
  most : AreSmall l.most (take l.set-index l.sets);
  range : l.most ≤ max_members;
}
