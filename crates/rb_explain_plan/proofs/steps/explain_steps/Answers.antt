use Rattle.std.proofs.Common.{ℕ, ◌+◌, take, sym, subst, arith}
use Rattle.std.specs.List.{AllZip}
use Rattle.rb_explain_plan.specs.Step.{IsExplained}
use Rattle.rb_explain_plan.specs.Steps.{IsExplainedUpdate}
use Rattle.rb_explain_plan.proofs.Told.{told_more, told_all}
use Rattle.rb_explain_plan.proofs.steps.explain_steps.Goals as goal

pub loop-update-preserved : goal.loop-update-preserved
loop-update-preserved g c =
    let v = c.args.view.now in
    let u = c.update-item.result in
    let x = c.explain_step.result in
    let told : IsExplainedUpdate v u x = subst (λ (t : ℕ). IsExplained v t u.height x) c.trusted.ensures (subst (λ (h : ℕ). IsExplained v c.trusted.result h x) c.height.ensures c.explain_step.ensures) in
    subst (AllZip (IsExplainedUpdate v) (take (c.loop-update.update-index + 1) c.args.updates.now)) (sym c.in_ok-push.ensures.items)
    (told_more v c.args.updates.now c.loop-update.update-index u c.loop-update.steps.items x c.loop-update-test.true c.update-item.is told c.loop-update.invariant)

pub returns : goal.returns
returns g c = told_all c.args.view.now c.args.updates.now c.loop-update.update-index c.loop-update.steps.items (omega arith) c.loop-update.invariant
