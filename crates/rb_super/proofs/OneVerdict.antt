-- An answer for a client in a turn has at most one verdict.
use Rattle.std.proofs.Common.{◌≡◌, ℕ, ◌<◌, ◌⊎◌, List, [], ◌∷◌, Option, Some, None, take, refl, sym, ap, ◌∙◌, subst, inl, inr, arith}
use Rattle.std.proofs.lemmas.Bool.{cases_order}
use Rattle.std.proofs.lemmas.Option.{same_Some}
use Rattle.rb_cert.specs.declared.verdict.Reason.{Reason}
use Rattle.rb_cert.specs.declared.verdict.Reason.TheVariants.{SourceLabel, LabelTooHigh, PlanNotAccepted, GoalMissed, PlanNotTight, NotTheTie, GoalLabelled}
use Rattle.rb_cert.specs.declared.verdict.Judgement.{Judgement}
use Rattle.rb_cert.specs.declared.verdict.Judgement.TheVariants.{Yes, No}
use Rattle.rb_cert.specs.Judgement.{Judges}
use Rattle.rb_cert.specs.Refusal.{check_of, IsEarlierPlace, IsJudgedBefore, IsFirst}
use Rattle.rb_script_types.specs.declared.goal.Goal.{Goal}
use Rattle.rb_plan_types.specs.Labelling.{Labels}
use Rattle.rb_plan_types.specs.Laws.{AnswersAreOne}
use Rattle.rb_step.specs.LightClient.{Update, Client}
use Rattle.rb_step.specs.View.{View, client_of}
use Rattle.rb_core_model.specs.Standing.{ClientState, Standing, opening_standing}
use Rattle.rb_plan_client.specs.Task.{Task, view_of}
use Rattle.rb_super_turn.specs.Judging.{Leads, IsPlanPhase, IsPlannedGoal, IsVerdictFor, IsVerdictIn}
use Rattle.rb_super.specs.Laws.{VerdictIsOne}
use Rattle.rb_super_turn.specs.Report.{TurnReport}
use Rattle.rb_super_turn.specs.Script.{Turn, Script}
use Rattle.rb_super_turn.specs.Turns.{before_plans, after_turn}
use Rattle.rb_super_turn.proofs.OneReport.{CutsAreOne, one_turn}
use Rattle.rb_super_turn.proofs.Judged.{one_known, one_task, one_goal}

-- ---- the order of reasons is total

-- before, the same, or after
abbrev Ordered : Type 0 → Type 0 → Type 0 → Type 0
Ordered Before Same After = Before ⊎ (Same ⊎ After)

one_place : (r : ℕ → Reason) (i j : ℕ) → Ordered (i < j) (r i ≡ r j) (j < i)
one_place r i j = elim (cases_order i j) [
  | inl same ↦ inr (inl (ap r same))
  | inr (inl before) ↦ inl before
  | inr (inr after) ↦ inr (inr after)
]

-- places of the same check
of_one_check : (r s : Reason) → check_of r ≡ check_of s → Ordered (IsEarlierPlace r s) (r ≡ s) (IsEarlierPlace s r)
of_one_check (SourceLabel h) (SourceLabel k) e = one_place (λ n. SourceLabel n) h k
of_one_check (LabelTooHigh t h) (LabelTooHigh u k) e = elim (cases_order h k) [
  | inl same ↦ elim (cases_order t u) [
    | inl also ↦ inr (inl (λ i. LabelTooHigh (also i) (same i)))
    | inr (inl before) ↦ inl (inr (same, before))
    | inr (inr after) ↦ inr (inr (inr (sym same, after)))
  ]
  | inr (inl before) ↦ inl (inl before)
  | inr (inr after) ↦ inr (inr (inl after))
]
of_one_check (PlanNotAccepted i) (PlanNotAccepted j) e = one_place (λ n. PlanNotAccepted n) i j
of_one_check GoalMissed GoalMissed e = inr (inl refl)
of_one_check (PlanNotTight i) (PlanNotTight j) e = one_place (λ n. PlanNotTight n) i j
of_one_check (NotTheTie i) (NotTheTie j) e = elim (one_place (λ n. NotTheTie n) j i) [
  | inl before ↦ inl before
  | inr (inl same) ↦ inr (inl (sym same))
  | inr (inr after) ↦ inr (inr after)
]
of_one_check (GoalLabelled h) (GoalLabelled k) e = one_place (λ n. GoalLabelled n) h k
of_one_check _ _ e = absurd (omega (arith, e))

of_any : (r s : Reason) → Ordered (IsJudgedBefore r s) (r ≡ s) (IsJudgedBefore s r)
of_any r s = elim (cases_order (check_of r) (check_of s)) [
  | inl same ↦ elim (of_one_check r s same) [
    | inl before ↦ inl (inr before)
    | inr (inl equal) ↦ inr (inl equal)
    | inr (inr after) ↦ inr (inr (inr after))
  ]
  | inr (inl before) ↦ inl (inl before)
  | inr (inr after) ↦ inr (inr (inl after))
]

-- ---- what the certifier says

module _ (client : Client) (labels : Labels) (goal : Goal) (claim : Option (List Update)) where
  one_reason : (r s : Reason) → IsFirst client labels goal claim r → IsFirst client labels goal claim s → r ≡ s
  one_reason r s a b = elim (of_any r s) [
    | inl before ↦ absurd (b.first r before a.holds)
    | inr (inl same) ↦ same
    | inr (inr after) ↦ absurd (a.first s after b.holds)
  ]

  one_judgement : (v w : Judgement) → Judges client labels goal claim v → Judges client labels goal claim w → v ≡ w
  one_judgement Yes Yes a b = refl
  one_judgement Yes (No s) a b = absurd (a s b.holds)
  one_judgement (No r) Yes a b = absurd (b r a.holds)
  one_judgement (No r) (No s) a b = ap (λ x. No x) (one_reason r s a b)

one_for_goal : (view : View) (goal : Option Goal) (labels : Labels) (claim : Option (List Update)) (v w : Option Judgement)
    → IsVerdictFor view goal labels claim v → IsVerdictFor view goal labels claim w → v ≡ w
one_for_goal view None labels claim v w a b = a ∙ sym b
one_for_goal view (Some goal) labels claim None w a b = absurd a
one_for_goal view (Some goal) labels claim (Some v) None a b = absurd b
one_for_goal view (Some goal) labels claim (Some v) (Some w) a b = ap (λ x. Some x) (one_judgement (client_of view) labels goal claim v w a b)

-- ---- where the client stands

module _ (one : AnswersAreOne) (cuts : CutsAreOne) where
  one_end : (s : Standing) (ts : List Turn) (a b : Standing) → Leads s ts a → Leads s ts b → a ≡ b
  one_end s [] a b p q = sym p ∙ q
  one_end s (t ∷ ts) a b p q =
      let same : p.0 ≡ q.0 = one_turn one cuts s t p.0 q.0 p.1 q.1 in
      one_end (after_turn s t q.0) ts a b (subst (λ (r : TurnReport). Leads (after_turn s t r) ts a) same p.2) q.2

  one_phase : (script : Script) (turn : ℕ) (s u : Standing) → IsPlanPhase script turn s → IsPlanPhase script turn u → s ≡ u
  one_phase script turn s u a b =
      let begun = one_end (opening_standing script.config) (take turn script.turns) a.begun b.begun a.earlier b.earlier in
      let this : a.this ≡ b.this = same_Some a.this b.this (sym a.is ∙ b.is) in
      a.taken_in ∙ (λ i. before_plans (begun i) (this i)) ∙ sym b.taken_in

  pub one_verdict : VerdictIsOne
  one_verdict script turn client labels claim v w a b =
      let standings : a.standing ≡ b.standing = one_phase script turn a.standing b.standing a.phase b.phase in
      let x : IsVerdictIn b.standing client labels claim v = subst (λ s. IsVerdictIn s client labels claim v) standings a.judged in
      let y = b.judged in
      let knowns : x.known ≡ y.known = one_known b.standing client x.known y.known x.task y.task x.is y.is in
      let tasks : x.task ≡ y.task = one_task b.standing client x.known y.known x.task y.task x.is y.is in
      let mine : IsPlannedGoal y.known y.task x.goal = subst (λ (p : ClientState × Task). IsPlannedGoal p.0 p.1 x.goal) (λ i. (knowns i, tasks i)) x.is_planned in
      let goals : x.goal ≡ y.goal = one_goal y.known y.task x.goal y.goal mine y.is_planned in
      one_for_goal (view_of y.task) y.goal labels claim v w
      (subst (λ (p : Task × Option Goal). IsVerdictFor (view_of p.0) p.1 labels claim v) (λ i. (tasks i, goals i)) x.judged) y.judged
