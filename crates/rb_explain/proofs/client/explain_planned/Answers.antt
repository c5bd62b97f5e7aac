use Rattle.std.proofs.Common.{◌≡◌, List, map, ap, sym, subst, ◌∙◌}
use Rattle.rb_plan_types.specs.Least.{IsLeast}
use Rattle.rb_plan_types.specs.declared.labelling.Label.{Label}
use Rattle.rb_plan_client.specs.Task.{view_of}
use Rattle.rb_step.specs.View.{View, client_of}
use Rattle.rb_super_turn.specs.declared.report.PricedUpdate.{PricedUpdate}
use Rattle.rb_explain.proofs.Reasons.{right_plan, why_planned, why_unreachable}
use Rattle.rb_explain_plan.specs.Plan.{IsPlanExplained}
use Rattle.rb_explain_plan.specs.Unreachable.{IsUnreachableExplained}
use Rattle.rb_explain.proofs.client.explain_planned.Goals as goal

pub explain_plan-requires-clause-least : goal.explain_plan-requires-clause-least
explain_plan-requires-clause-least g c =
    let us = c.as_slice-in-Some.result.now in
    let updates : us ≡ map (λ (u : PricedUpdate _). u.update) c.in-Some.plan.updates.items =
    c.as_slice-in-Some.ensures.value ∙ c.in_ok-updates-in-Some.ensures ∙ ap (map (λ (u : PricedUpdate _). u.update)) c.as_slice.ensures.value in
    subst (λ (v : View). IsLeast (client_of v) c.args.report.now.goal us) (sym c.view-view.ensures)
    (right_plan c.args.job.now.task c.args.report.now c.in-Some.plan us c.requires.right c.in-Some.is updates)

pub returns-in_ok-why-in-Some : goal.returns-in_ok-why-in-Some
returns-in_ok-why-in-Some g c =
    let us = c.as_slice-in-Some.result.now in
    let updates : us ≡ map (λ (u : PricedUpdate _). u.update) c.in-Some.plan.updates.items =
    c.as_slice-in-Some.ensures.value ∙ c.in_ok-updates-in-Some.ensures ∙ ap (map (λ (u : PricedUpdate _). u.update)) c.as_slice.ensures.value in
    why_planned c.args.job.now.task c.args.report.now c.in-Some.plan us c.args.detail c.in_ok-why-in-Some.why c.in-Some.is updates
    (subst (λ (v : View). IsPlanExplained v c.args.report.now.goal us c.args.detail.has_fewest c.in_ok-why-in-Some.why) c.view-view.ensures c.in_ok-why-in-Some.ensures)

pub returns-in_ok-why-in-None : goal.returns-in_ok-why-in-None
returns-in_ok-why-in-None g c =
    why_unreachable c.args.job.now.task c.args.report.now c.args.detail c.in_ok-why-in-None.why c.in-None.is
    (subst (λ (ls : List Label). IsUnreachableExplained (view_of c.args.job.now.task) c.args.report.now.goal ls c.args.detail.most c.in_ok-why-in-None.why) c.labels-labels.ensures.labels
    (subst (λ (v : View). IsUnreachableExplained v c.args.report.now.goal c.labels-labels.result.now c.args.detail.most c.in_ok-why-in-None.why) c.view-view.ensures c.in_ok-why-in-None.ensures))
