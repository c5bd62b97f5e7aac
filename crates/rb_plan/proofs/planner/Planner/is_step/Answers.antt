use Rattle.std.proofs.Common.{Some, None, subst}
use Rattle.rb_graph.specs.StepTable.{Target, IsStepFee}
use Rattle.rb_step.specs.View.{client_of}
use Rattle.rb_plan.proofs.Serving.{step_told}
use Rattle.rb_plan.proofs.StepBetween.{step_of_fee, no_step}
use Rattle.rb_plan.proofs.planner.Planner.is_step.Goals as goal

pub returns-in-Some : goal.returns-in-Some
returns-in-Some g c =
    let v = c.args.self.now in
    let from = c.args.from.now in
    let to = c.args.to.now in
    step_of_fee (client_of v) from to c.in-Some.fee c.after_update.result c.eq.result
    (step_told v from.height to.height (Some c.in-Some.fee) (subst (λ (x : Target). IsStepFee x from.height (Some c.in-Some.fee)) c.requires.target c.in-Some.ensures.value))
    c.after_update.ensures c.eq.ensures

pub returns-in_default : goal.returns-in_default
returns-in_default g c =
    let v = c.args.self.now in
    let from = c.args.from.now in
    let to = c.args.to.now in
    no_step (client_of v) from to (step_told v from.height to.height None (subst (λ (x : Target). IsStepFee x from.height None) c.requires.target c.in_default.ensures.value))
