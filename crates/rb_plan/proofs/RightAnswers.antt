-- What is planned for a task is right by the exact labelling.
use Rattle.std.proofs.Common.{◌≡◌, ℕ, zero, suc, ◌≤◌, Bool, true, false, cond, eqb, List, [], ◌∷◌, Option, Some, None, MatchOption, IfSome, IsSomeAnd, All, refl, sym, ap, ◌∙◌, subst, arith}
use Rattle.std.specs.List.{Any, find, AllByRecursion}
use Rattle.std.specs.Option.{option_map}
use Rattle.std.proofs.lemmas.Bool.{eqb-true, eq-eqb, true≢false}
use Rattle.std.proofs.lemmas.List.Elements.{recursion_from_All}
use Rattle.std.proofs.lemmas.Option.{none-some}
use Rattle.rb_plan_types.specs.declared.cost.Cost.{Cost}
use Rattle.rb_script_types.specs.declared.goal.Goal.{Goal}
use Rattle.rb_plan_types.specs.declared.labelling.Label.{Label}
use Rattle.rb_plan_types.specs.Labelling.{IsExact, label_of}
use Rattle.rb_plan_types.specs.Least.{IsUnreachable}
use Rattle.rb_step.specs.LightClient.{Client}
use Rattle.rb_step.specs.View.{client_of}
use Rattle.rb_plan_client.specs.Draft.{Planned, IsPlan, IsPlanned, IsAnswer}
use Rattle.rb_plan.specs.Planning.{IsPlannedFor, IsPlannedIf}
use Rattle.rb_plan_client.specs.Reach.{IsReach}
use Rattle.rb_plan_client.specs.Task.{Task, view_of, goal_of}

-- ---- the greatest labelled height is the reach

-- a height that a label has is labelled
labelled : (ls : List Label) (h : ℕ) → Any (λ (l : Label). l.height ≡ h) ls → (c : Cost) × (label_of ls h ≡ Some c)
labelled [] h (k, x, lt, at, is) = absurd (omega arith)
labelled (l ∷ ls) h any = go (eqb l.height h) refl any (labelled ls h)
  where
    go : (b : Bool) → eqb l.height h ≡ b → Any (λ (x : Label). x.height ≡ h) (l ∷ ls) → (Any (λ (x : Label). x.height ≡ h) ls → (c : Cost) × (label_of ls h ≡ Some c))
        → (c : Cost) × (option_map (λ (x : Label). x.cost) (cond b (Some l) (find (λ (x : Label). eqb x.height h) ls)) ≡ Some c)
    go true e any rest = (l.cost, refl)
    go false e (zero, x, lt, at, is) rest = absurd (true≢false (sym (eq-eqb l.height h (ap (λ (y : Label). y.height) at ∙ is)) ∙ e))
    go false e (suc k, x, lt, at, is) rest = rest (k, x, omega arith, at, is)

-- a labelled height is at most what all labels' heights are at most
bounded : (ls : List Label) (h t : ℕ) (c : Cost) → label_of ls h ≡ Some c → AllByRecursion (λ (l : Label). l.height ≤ t) ls → h ≤ t
bounded [] h t c e all = absurd (none-some c e)
bounded (l ∷ ls) h t c e all = go (eqb l.height h) refl e (λ f. bounded ls h t c f all.1)
  where
    go : (b : Bool) → eqb l.height h ≡ b → option_map (λ (x : Label). x.cost) (cond b (Some l) (find (λ (x : Label). eqb x.height h) ls)) ≡ Some c → (label_of ls h ≡ Some c → h ≤ t) → h ≤ t
    go true e f rest = let same = eqb-true l.height h e in let le : l.height ≤ t = all.0 in omega arith
    go false e f rest = rest f

some_of : (o : Option Cost) (P : Cost → Type 0) → IsSomeAnd o P → (c : Cost) × (o ≡ Some c)
some_of None P h = absurd h
some_of (Some c) P h = (c, refl)

pub reach_from_top : (client : Client) (ls : List Label) (top : Option ℕ) → IsExact client (label_of ls) → MatchOption top (ls ≡ []) (λ t. Any (λ (l : Label). l.height ≡ t) ls)
    → IfSome top (λ t. All (λ (l : Label). l.height ≤ t) ls) → IsReach client top
reach_from_top client ls None exact empty greatest = record {
  reached = tt;
  greatest = λ h there.
      let c = some_of (label_of ls h) _ (exact.least h there.0 there.1 there.2) in
      absurd (none-some c.0 (ap (λ (xs : List Label). label_of xs h) (sym empty) ∙ c.1));
}
reach_from_top client ls (Some t) exact there greatest = record {
  reached = (let l = labelled ls t there in let r = exact.reached t l.0 l.1 in (r.0, r.1, r.2));
  greatest = λ h reached.
      let c = some_of (label_of ls h) _ (exact.least h reached.0 reached.1 reached.2) in
      bounded ls h t c.0 c.1 (recursion_from_All (λ (l : Label). l.height ≤ t) ls greatest);
}

-- ---- the answer

planned_right : (t : Task) (reach : Option ℕ) (g : Goal) (p : Planned) → IsReach (client_of (view_of t)) reach → goal_of t reach ≡ Some g → IsPlannedFor t reach g p → IsPlanned t p
planned_right t reach g p is goal planned = record {
  reach = reach;
  is_reach = is;
  goal = goal ∙ ap (λ (x : Goal). Some x) (sym planned.goal);
  labels = planned.labels;
  exact = planned.exact;
  plan = subst (λ (x : Goal). MatchOption p.plan (IsUnreachable (client_of (view_of t)) x) (IsPlan t reach x)) (sym planned.goal) planned.plan;
}

pub answer_right : (t : Task) (reach : Option ℕ) (o : Option Goal) (p : Option Planned) → IsReach (client_of (view_of t)) reach → o ≡ goal_of t reach → IsPlannedIf t reach o p → IsAnswer t p
answer_right t reach None None is goal planned = record { reach = reach; is_reach = is; goal = sym goal }
answer_right t reach None (Some p) is goal planned = absurd planned
answer_right t reach (Some g) None is goal planned = absurd planned
answer_right t reach (Some g) (Some p) is goal planned = planned_right t reach g p is (sym goal) planned
