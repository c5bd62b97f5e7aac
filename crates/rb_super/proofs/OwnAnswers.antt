-- The answer of a report is right where its client is planned.
use Rattle.std.proofs.Common.{◌≡◌, ℕ, zero, suc, ◌+◌, List, [], ◌∷◌, Option, Some, None, MatchOption, map, take, slice_get, refl, sym, ap, ◌∙◌, subst, arith}
use Rattle.std.specs.List.{AllZip, enumerate_from}
use Rattle.std.specs.Option.{option_map}
use Rattle.std.proofs.lemmas.Option.{same_Some}
use Rattle.rb_plan_client.specs.Draft.{Plan as SentPlan, Planned as Answer, IsPlan}
use Rattle.rb_core_model.specs.Standing.{Standing, opening_standing, task_in}
use Rattle.rb_plan_client.specs.Task.{Task, view_of}
use Rattle.rb_script_types.specs.declared.goal.Goal.{Goal}
use Rattle.rb_plan_types.specs.Answer.{Shows}
use Rattle.rb_plan_types.specs.Labelling.{Labels, IsExact, label_of}
use Rattle.rb_plan_types.specs.Laws.{AnswersAreOne}
use Rattle.rb_plan_types.specs.Least.{IsUnreachable}
use Rattle.rb_step.specs.LightClient.{Update}
use Rattle.rb_step.specs.View.{client_of}
use Rattle.rb_super_turn.specs.Judging.{Leads, IsPlanPhase, IsWanted, IsPlannedGoal, IsExactAs, claim_in, IsReported}
use Rattle.rb_super_turn.specs.Report.{PlanReport, PlannedReport, planned, TurnReport, Report}
use Rattle.rb_super_turn.specs.Script.{Turn, Script}
use Rattle.rb_super_turn.specs.Turns.{update_of, reported, reported_plan, IsOutcome, IsClientReport, IsTurnReport, AreTurnReports, IsReportOf, after_turn}
use Rattle.rb_super_turn.proofs.OneReport.{CutsAreOne, one_turn}
use Rattle.rb_super_turn.proofs.Reported.{updates_back}

-- what stands beside an element of the second list
zipped_in : {X Y : Type 0} (R : ℕ × X → Y → Type 0) (m : ℕ) (xs : List X) (ys : List Y) (i n : ℕ) (y : Y) → n ≡ m + i → AllZip R (enumerate_from m xs) ys → slice_get ys i ≡ Some y
    → (x : X) × (slice_get xs i ≡ Some x) × R (n, x) y
zipped_in R m [] [] i n y e all at = absurd cc
zipped_in R m [] (q ∷ ys) i n y e all at = absurd all
zipped_in R m (p ∷ xs) [] i n y e all at = absurd all
zipped_in R m (p ∷ xs) (q ∷ ys) zero n y e all at =
    let place : m ≡ n = omega arith in
    let same : q ≡ y = same_Some q y at in
    (p, cc, subst (λ z. R (n, p) z) same (subst (λ k. R (k, p) q) place all.0))
zipped_in R m (p ∷ xs) (q ∷ ys) (suc i) n y e all at = zipped_in R (m + 1) xs ys i n y (omega arith) all.1 at

-- the turn's report is one as the turns before it left things
reported_at : AnswersAreOne → CutsAreOne → (s : Standing) (ts : List Turn) (rs : Report) (i : ℕ) (u : Standing) (t : Turn) (r : TurnReport)
    → AreTurnReports s ts rs → Leads s (take i ts) u → slice_get ts i ≡ Some t → slice_get rs i ≡ Some r → IsTurnReport u t r
reported_at one cuts s [] rs i u t r all leads at is = cc
reported_at one cuts s (x ∷ ts) [] i u t r all leads at is = absurd all
reported_at one cuts s (x ∷ ts) (y ∷ rs) zero u t r all leads at is =
    let turn : x ≡ t = cc in
    let report : y ≡ r = cc in
    subst (λ (z : TurnReport). IsTurnReport u t z) report
    (subst (λ (z : Turn). IsTurnReport u z y) turn (subst (λ (z : Standing). IsTurnReport z x y) leads all.0))
reported_at one cuts s (x ∷ ts) (y ∷ rs) (suc i) u t r all leads at is =
    let same : y ≡ leads.0 = one_turn one cuts s x y leads.0 all.0 leads.1 in
    reported_at one cuts (after_turn s x leads.0) ts rs i u t r (subst (λ (z : TurnReport). AreTurnReports (after_turn s x z) ts rs) same all.1) leads.2 at is

-- what a report claims is what was planned
claimed : (t : Task) (number : ℕ) (next : Option ℕ) (a : Answer) → claim_in (reported t number next a) ≡ option_map (λ (p : SentPlan). p.updates) a.plan
claimed t number next a = go a.plan
  where
    go : (o : Option SentPlan) → option_map (λ (p : PlanReport). map update_of p.updates) (option_map (reported_plan t number) o) ≡ option_map (λ (p : SentPlan). p.updates) o
    go None = refl
    go (Some p) = ap (λ us. Some us) (updates_back t p.updates)

shown : (t : Task) (reach : Option ℕ) (goal : Goal) (plan : Option SentPlan) → MatchOption plan (IsUnreachable (client_of (view_of t)) goal) (IsPlan t reach goal)
    → Shows (client_of (view_of t)) goal (option_map (λ (p : SentPlan). p.updates) plan)
shown t reach goal None none = none
shown t reach goal (Some p) is = is.least

pub own_answer : AnswersAreOne → CutsAreOne → (script : Script) (turn client : ℕ) (labels : Labels) (claim : Option (List Update)) (s : Standing) (Accepted : Type 0)
    → IsPlanPhase script turn s
    → (IsExactAs s client labels claim → Accepted)
    → (report : Report) → IsReportOf script report → IsReported report turn client labels claim → Accepted
own_answer one cuts script turn client labels claim s Accepted phase accepts report all own =
    let of_turn : IsTurnReport phase.begun phase.this own.of_turn =
    reported_at one cuts (opening_standing script.config) script.turns report turn phase.begun phase.this own.of_turn all phase.earlier phase.is own.turn_is in
    let reports : AllZip (IsClientReport s) (enumerate_from 0 s.clients) own.of_turn.clients =
    subst (λ (u : Standing). AllZip (IsClientReport u) (enumerate_from 0 u.clients) own.of_turn.clients) (sym phase.taken_in) of_turn.clients in
    let at = zipped_in (IsClientReport s) 0 s.clients own.of_turn.clients client client own.of_client (omega arith) reports own.client_is in
    let c = at.0 in
    let mine : IsClientReport s (client, c) own.of_client = at.2 in
    let t = task_in s mine.window client c in
    let outcome : IsOutcome t c (planned own.answer) = subst (IsOutcome t c) own.outcome mine.outcome in
    let a = outcome.1.answer in
    let right = outcome.1.right in
    let is : own.answer ≡ reported t (c.batches + 1) own.answer.next a = outcome.1.is in
    let goal : IsPlannedGoal c t (Some a.goal) =
    subst (λ o. MatchOption o (IsWanted t (Some a.goal)) (λ b. Some a.goal ≡ None)) (sym outcome.0) (record { reach = right.reach; is_reach = right.is_reach; is_goal = sym right.goal }) in
    accepts (record {
      known = c;
      task = t;
      is = record { window = mine.window; is_window = mine.is_window; is_known = at.1; is_task = refl };
      goal = a.goal;
      is_planned = goal;
      exact = subst (λ (l : Labels). IsExact (client_of (view_of t)) l) (sym (own.labels_are ∙ ap (λ (p : PlannedReport). label_of p.labels) is)) right.exact;
      shows = subst (λ (x : Option (List Update)). Shows (client_of (view_of t)) a.goal x) (sym (own.claim_is ∙ ap claim_in is ∙ claimed t (c.batches + 1) own.answer.next a)) (shown t right.reach a.goal a.plan right.plan);
    })
