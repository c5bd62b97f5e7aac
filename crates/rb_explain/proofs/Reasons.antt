-- Why what was planned is as it is.
use Rattle.std.proofs.Common.{◌≡◌, ℕ, ◌+◌, ◌≤◌, List, [], ◌∷◌, map, Option, Some, None, All, IfSome, IsSomeAnd, MatchOption, ap, sym, refl, subst, ◌∙◌}
use Rattle.std.specs.List.{Any}
use Rattle.std.specs.Option.{option_map}
use Rattle.std.proofs.lemmas.Option.{none-some, same_Some}
use Rattle.rb_plan_types.specs.Labelling.{IsExact, label_of}
use Rattle.rb_plan_types.specs.Least.{IsLeast, IsUnreachable}
use Rattle.rb_plan_types.specs.declared.labelling.Label.{Label}
use Rattle.rb_plan_client.specs.Draft.{Plan, IsPlan}
use Rattle.rb_plan_client.specs.Reach.{IsReach}
use Rattle.rb_plan_client.specs.Task.{Task, view_of}
use Rattle.rb_plan.proofs.RightAnswers.{reach_from_top}
use Rattle.rb_step.specs.View.{client_of}
use Rattle.rb_script_types.specs.declared.goal.Goal.{Goal}
use Rattle.rb_step.specs.LightClient.{Update}
use Rattle.rb_super_turn.specs.Report.{PlanReport, PlannedReport, idle, planned}
use Rattle.rb_super_turn.specs.Turns.{update_of, priced, reported_plan, IsPlanFor}
use Rattle.rb_super_turn.proofs.Reported.{updates_back}
use Rattle.rb_super_turn.specs.Views.{priced_view, plan_view, planned_view, outcome_view}
use Rattle.rb_super_turn.specs.declared.report.Outcome.{Outcome as CodeOutcome}
use Rattle.rb_super_turn.specs.declared.report.Outcome.TheVariants as outcome
use Rattle.rb_super_turn.specs.declared.report.PlanReport.{PlanReport as CodePlan}
use Rattle.rb_super_turn.specs.declared.report.PlannedReport.{PlannedReport as CodePlanned}
use Rattle.rb_super_turn.specs.declared.report.PricedUpdate.{PricedUpdate as CodePriced}
use Rattle.rb_explain.specs.Client.{IsReachFor, IsRight, IsWhy}
use Rattle.rb_explain.specs.Idle.{IsIdleReason, OwesAny}
use Rattle.rb_explain_plan.specs.Plan.{IsPlanExplained}
use Rattle.rb_explain_plan.specs.Unreachable.{IsUnreachableExplained}
use Rattle.rb_explain.specs.declared.client.Why.{Why}
use Rattle.rb_explain.specs.declared.client.Why.TheVariants.{Idle, Planned, Unreachable}
use Rattle.rb_explain.specs.declared.idle.IdleReason.{IdleReason}
use Rattle.rb_explain.specs.declared.wanted.Detail.{Detail}
use Rattle.rb_explain_plan.specs.declared.plan.PlanExplanation.{PlanExplanation}
use Rattle.rb_explain_plan.specs.declared.unreachable.UnreachableExplanation.{UnreachableExplanation}

-- ---- what is right of an outcome

exact_labels : (t : Task) (number : ℕ) (p : PlannedReport) → IsPlanFor t number p → IsExact (client_of (view_of t)) (label_of p.labels)
exact_labels t number p is = subst (λ (ls : List Label). IsExact (client_of (view_of t)) (label_of ls)) (sym (ap (λ (q : PlannedReport). q.labels) is.is)) is.right.exact

plan_in : (t : Task) (number : ℕ) (goal : Goal) (o : Option Plan) (q : PlanReport) → MatchOption o (IsUnreachable (client_of (view_of t)) goal) (λ (x : Plan). IsLeast (client_of (view_of t)) goal x.updates)
    → option_map (reported_plan t number) o ≡ Some q → IsLeast (client_of (view_of t)) goal (map update_of q.updates)
plan_in t number goal None q least is = absurd (none-some q is)
plan_in t number goal (Some x) q least is =
    let same : map (priced t) x.updates ≡ q.updates = ap (λ (y : PlanReport). y.updates) (same_Some (reported_plan t number x) q is) in
    subst (λ (us : List Update). IsLeast (client_of (view_of t)) goal us) (sym (updates_back t x.updates) ∙ ap (map update_of) same) least

least_of : (t : Task) (goal : Goal) (reach : Option ℕ) (o : Option Plan) → MatchOption o (IsUnreachable (client_of (view_of t)) goal) (IsPlan t reach goal)
    → MatchOption o (IsUnreachable (client_of (view_of t)) goal) (λ (x : Plan). IsLeast (client_of (view_of t)) goal x.updates)
least_of t goal reach None is = is
least_of t goal reach (Some x) is = is.least

least_plan : (t : Task) (number : ℕ) (p : PlannedReport) (q : PlanReport) → IsPlanFor t number p → p.plan ≡ Some q → IsLeast (client_of (view_of t)) p.goal (map update_of q.updates)
least_plan t number p q is plan =
    let goal : p.goal ≡ is.answer.goal = ap (λ (x : PlannedReport). x.goal) is.is in
    let there : option_map (reported_plan t number) is.answer.plan ≡ Some q = sym (ap (λ (x : PlannedReport). x.plan) is.is) ∙ plan in
    subst (λ (g : Goal). IsLeast (client_of (view_of t)) g (map update_of q.updates)) (sym goal)
    (plan_in t number is.answer.goal is.answer.plan q (least_of t is.answer.goal is.right.reach is.answer.plan is.right.plan) there)

updates_in : {A : Type 0} (xs : List (CodePriced A)) → map update_of (map priced_view xs) ≡ map (λ (u : CodePriced A). u.update) xs
updates_in [] = refl
updates_in (x ∷ xs) = ap (λ us. x.update ∷ us) (updates_in xs)

-- ---- how high a client can be brought

pub reach_owed : (t : Task) (next reach : Option ℕ) → OwesAny t → IsReach (client_of (view_of t)) reach → IsReachFor t (idle next) reach
reach_owed t next reach owes is = (λ _. is, λ none. absurd (none owes))

pub reach_rests : (t : Task) (next : Option ℕ) → (OwesAny t → ⊥) → IsReachFor t (idle next) None
reach_rests t next none = (λ owes. absurd (none owes), λ _. refl)

module _ {A : Type 0} where
  pub reach_planned : (t : Task) (p : CodePlanned A) (top : Option ℕ) → IsRight t (planned (planned_view p)) → MatchOption top (p.labelling ≡ []) (λ h. Any (λ (l : Label). l.height ≡ h) p.labelling)
      → IfSome top (λ h. All (λ (l : Label). l.height ≤ h) p.labelling) → IsReachFor t (planned (planned_view p)) top
  reach_planned t p top right labelled greatest =
      reach_from_top (client_of (view_of t)) p.labelling top (exact_labels t (right.0.batches + 1) (planned_view p) right.1.1) labelled greatest

  -- ---- why

  pub right_plan : (t : Task) (p : CodePlanned A) (plan : CodePlan A) (us : List Update) → IsRight t (planned (planned_view p)) → p.plan ≡ Some plan → us ≡ map (λ (u : CodePriced A). u.update) plan.updates.items
      → IsLeast (client_of (view_of t)) p.goal us
  right_plan t p plan us right is updates =
      subst (λ (vs : List Update). IsLeast (client_of (view_of t)) p.goal vs) (updates_in plan.updates.items ∙ sym updates)
      (least_plan t (right.0.batches + 1) (planned_view p) (plan_view plan) right.1.1 (ap (λ (o : Option (CodePlan A)). option_map plan_view o) is))

  pub why_planned : (t : Task) (p : CodePlanned A) (plan : CodePlan A) (us : List Update) (detail : Detail) (x : PlanExplanation A) → p.plan ≡ Some plan → us ≡ map (λ (u : CodePriced A). u.update) plan.updates.items
      → IsPlanExplained (view_of t) p.goal us detail.has_fewest x → IsWhy t (planned (planned_view p)) detail (Planned x)
  why_planned t p plan us detail x is updates why =
      subst (λ (o : Option (CodePlan A)). IsSomeAnd (option_map plan_view o) (λ (q : PlanReport). IsPlanExplained (view_of t) p.goal (map update_of q.updates) detail.has_fewest x)) (sym is)
      (subst (λ (vs : List Update). IsPlanExplained (view_of t) p.goal vs detail.has_fewest x) (updates ∙ sym (updates_in plan.updates.items)) why)

  pub why_unreachable : (t : Task) (p : CodePlanned A) (detail : Detail) (x : UnreachableExplanation A) → p.plan ≡ None → IsUnreachableExplained (view_of t) p.goal p.labelling detail.most x
      → IsWhy t (planned (planned_view p)) detail (Unreachable x)
  why_unreachable t p detail x is why = (ap (λ (o : Option (CodePlan A)). option_map plan_view o) is, why)

  -- ---- an outcome of each kind

  pub idle_reach : (t : Task) (o : CodeOutcome A) (next reach : Option ℕ) → o ≡ outcome.Idle next → IsReachFor t (outcome_view o) reach → OwesAny t → IsReach (client_of (view_of t)) reach
  idle_reach t o next reach is known = (subst (λ (x : CodeOutcome A). IsReachFor t (outcome_view x) reach) is known).0

  pub idle_why : (t : Task) (o : CodeOutcome A) (next : Option ℕ) (detail : Detail) (r : IdleReason) → o ≡ outcome.Idle next → IsIdleReason t r → IsWhy {A = A} t (outcome_view o) detail (Idle r)
  idle_why t o next detail r is reason = subst (λ (x : CodeOutcome A). IsWhy {A = A} t (outcome_view x) detail (Idle r)) (sym is) reason

  pub planned_right : (t : Task) (o : CodeOutcome A) (p : CodePlanned A) → o ≡ outcome.Planned p → IsRight t (outcome_view o) → IsRight t (planned (planned_view p))
  planned_right t o p is right = subst (λ (x : CodeOutcome A). IsRight t (outcome_view x)) is right

  pub planned_why : (t : Task) (o : CodeOutcome A) (p : CodePlanned A) (detail : Detail) (w : Why A) → o ≡ outcome.Planned p → IsWhy t (planned (planned_view p)) detail w → IsWhy t (outcome_view o) detail w
  planned_why t o p detail w is why = subst (λ (x : CodeOutcome A). IsWhy t (outcome_view x) detail w) (sym is) why
