use Rattle.std.proofs.Common.{subst}
use Rattle.rb_plan_types.specs.Answer.{Answers}
use Rattle.rb_plan_types.specs.Least.{IsUnreachable}
use Rattle.rb_plan_types.specs.declared.answer.Answer.{Answer}
use Rattle.rb_step.specs.View.{View, client_of}
use Rattle.rb_explain_plan.proofs.Shifted.{unreachable_by}
use Rattle.rb_explain_plan.proofs.fewest_updates.least_by.Goals as goal

pub unreachable-requires : goal.unreachable-requires
unreachable-requires g c =
    let v = c.args.view.now in
    let shows = subst (λ (a : Answer _). Answers (client_of c.with_fees-view.result) c.args.goal a) c.in-Unreachable.is c.in_ok-updates.ensures.answers in
    c.requires.met (unreachable_by v c.args.fees v.fees c.args.goal (subst (λ (w : View). IsUnreachable (client_of w) c.args.goal) c.with_fees-view.ensures shows.1))
