-- Updates with their fees, and what they cost in all.
use Rattle.std.proofs.Common.{◌≡◌, ℕ, ◌+◌, ◌<◌, ◌≤◌, ◌^◌, ◌⊎◌, List, [], ◌∷◌, Option, Some, None, IsSomeAnd, All, MatchOption, length, map, find, sum_by, refl, sym, ap, ◌∙◌, subst, inl, inr, arith, eqb, Bool, true, false, cond}
use Rattle.std.specs.Option.{option_map, IfSome}
use Rattle.std.proofs.lemmas.List.{length-map}
use Rattle.std.proofs.lemmas.List.Elements.{All-head, All-tail}
use Rattle.std.proofs.lemmas.List.Sums.{sum_by-cons}
use Rattle.rb_plan_client.specs.Draft.{Plan as SentPlan, Planned as Answer, Draft, IsPlan, IsPlanned, IsAnswer, IsDraft}
use Rattle.rb_plan_client.specs.Task.{Task, Message, view_of}
use Rattle.rb_plan_types.specs.declared.cost.Cost.{Cost}
use Rattle.rb_script_types.specs.declared.goal.Goal.{Goal}
use Rattle.rb_plan_types.specs.declared.labelling.Label.{Label}
use Rattle.rb_plan_types.specs.Labelling.{IsLabelling, IsExact, label_of}
use Rattle.rb_plan_types.specs.Least.{IsLeast, IsUnreachable}
use Rattle.rb_plan_types.specs.Order.{IsCheaper, CostsAtMost, cost_of}
use Rattle.rb_step.specs.LightClient.{Update, Client, total_fee}
use Rattle.rb_step.specs.View.{client_of}
use Rattle.rb_plan_types.proofs.Costs.{same_cost}
use Rattle.rb_super_turn.specs.declared.report.PricedUpdate.{PricedUpdate as CodePriced}
use Rattle.rb_super_turn.specs.Report.{PricedUpdate, SendingReport, PlanReport}
use Rattle.rb_super_turn.specs.Turns.{priced, numbered, reported_plan}
use Rattle.rb_super_turn.specs.Views.{priced_view}

fees_told : {A : Type 0} (ps : List (CodePriced A)) → sum_by (λ (u : PricedUpdate). u.fee) (map priced_view ps) ≡ sum_by (λ (u : CodePriced A). u.fee) ps
fees_told [] = refl
fees_told {A} (p ∷ ps) =
    sum_by-cons (λ (u : PricedUpdate). u.fee) (priced_view p) (map priced_view ps) ∙ ap (λ n. p.fee + n) (fees_told ps) ∙ sym (sum_by-cons (λ (u : CodePriced A). u.fee) p ps)

fees_priced : (t : Task) (us : List Update) → sum_by (λ (u : PricedUpdate). u.fee) (map (priced t) us) ≡ total_fee (client_of (view_of t)) us
fees_priced t [] = refl
fees_priced t (u ∷ us) =
    sum_by-cons (λ (v : PricedUpdate). v.fee) (priced t u) (map (priced t) us)
    ∙ ap (λ n. (client_of (view_of t)).fee u.trusted u.height + n) (fees_priced t us)
    ∙ sym (sum_by-cons (λ (v : Update). (client_of (view_of t)).fee v.trusted v.height) u us)

fees_in_all : {A : Type 0} (t : Task) (us : List Update) (ps : List (CodePriced A)) → map priced_view ps ≡ map (priced t) us → sum_by (λ (u : CodePriced A). u.fee) ps ≡ total_fee (client_of (view_of t)) us
fees_in_all t us ps e = sym (fees_told ps) ∙ ap (sum_by (λ (u : PricedUpdate). u.fee)) e ∙ fees_priced t us

-- the sum of the fees fits
pub fees_fit : {A : Type 0} (t : Task) (us : List Update) (ps : List (CodePriced A)) → map priced_view ps ≡ map (priced t) us → total_fee (client_of (view_of t)) us < 2 ^ 63 → sum_by (λ (u : CodePriced A). u.fee) ps < 2 ^ 64
fees_fit t us ps e small = let same = fees_in_all t us ps e in omega arith

abbrev pub told_plan : {A : Type 0} → List (CodePriced A) → Cost → List Message → SendingReport → PlanReport
told_plan ps total messages sending = record { updates = map priced_view ps; total = total; messages = messages; sending = sending }

-- the plan that is reported
pub plan_told : {A : Type 0} (t : Task) (number : ℕ) (p : SentPlan) (ps : List (CodePriced A)) (total : Cost) (messages : List Message) (sending : SendingReport) → map priced_view ps ≡ map (priced t) p.updates
    → total.fee ≡ sum_by (λ (u : CodePriced A). u.fee) ps → total.count ≡ length ps → messages ≡ p.messages → sending ≡ numbered number p.sending
    → told_plan ps total messages sending ≡ reported_plan t number p
plan_told t number p ps total messages sending updates fee count same_messages same_sending =
    let us = p.updates in
    let long : length ps ≡ length us = sym (length-map ps priced_view) ∙ ap length updates ∙ length-map us (priced t) in
    let whole : total ≡ cost_of (client_of (view_of t)) us = same_cost total (cost_of (client_of (view_of t)) us) (fee ∙ fees_in_all t us ps updates) (count ∙ long) in
    λ i. record { updates = updates i; total = whole i; messages = same_messages i; sending = same_sending i }

-- ---- the least list costs what a label says

head_or_rest : (b : Bool) (l : Label) (rest : Option Label) (c : Cost) → option_map (λ (l : Label). l.cost) (cond b (Some l) rest) ≡ Some c → (l.cost ≡ c) ⊎ (option_map (λ (l : Label). l.cost) rest ≡ Some c)
head_or_rest true l rest c e = inl (cc)
head_or_rest false l rest c e = inr e

abbrev IsSmall : Label → Type 0
IsSmall l = (l.cost.fee < 2 ^ 63) × (l.cost.count < 2 ^ 63)

labelled_small : (labels : List Label) (h : ℕ) (c : Cost) → All IsSmall labels → label_of labels h ≡ Some c → c.fee < 2 ^ 63
labelled_small [] h c small e = absurd (cc)
labelled_small (l ∷ ls) h c small e =
    elim (head_or_rest (eqb l.height h) l (find (λ (l : Label). eqb l.height h) ls) c e) [
      | inl same ↦ subst (λ (x : Cost). x.fee < 2 ^ 63) same (All-head IsSmall l ls small).0
      | inr rest ↦ labelled_small ls h c (All-tail IsSmall l ls small) rest
    ]

at_most : (a : Option Cost) (total : Cost) → IsSomeAnd a (λ c. CostsAtMost c total) → (c : Cost) × (a ≡ Some c) × CostsAtMost c total
at_most None total h = absurd h
at_most (Some c) total h = (c, refl, h)

no_dearer : (c total : Cost) → CostsAtMost c total → (IsCheaper c total → ⊥) → total.fee ≤ c.fee
no_dearer c total (inl lower) not_cheaper = absurd (not_cheaper (inl lower))
no_dearer c total (inr same) not_cheaper = omega (arith, same.0)

pub total_is_small : (client : Client) (labels : List Label) (goal : Goal) (us : List Update) → IsLabelling labels → IsExact client (label_of labels) → IsLeast client goal us → total_fee client us < 2 ^ 63
total_is_small client labels goal us labelling exact least =
    let met = least.meets in
    let label = at_most (label_of labels met.0) (cost_of client us) (exact.least met.0 us least.acceptable met.1) in
    let reached = exact.reached met.0 label.0 label.1 in
    let no_less = no_dearer label.0 (cost_of client us) label.2
    (λ cheaper. least.least reached.0 reached.1 (met.0, reached.2, met.2) (inl (subst (λ c. IsCheaper c (cost_of client us)) (sym reached.3) cheaper))) in
    let bound = labelled_small labels met.0 label.0 labelling.small label.1 in
    omega (arith, no_less, bound)

-- a plan that is right costs little enough
pub plan_is_small : (t : Task) (a : Answer) → IsPlanned t a → IfSome a.plan (λ (p : SentPlan). total_fee (client_of (view_of t)) p.updates < 2 ^ 63)
plan_is_small t a is = go a.plan is.plan
  where
    go : (o : Option SentPlan) → MatchOption o (IsUnreachable (client_of (view_of t)) a.goal) (IsPlan t is.reach a.goal) → IfSome o (λ (p : SentPlan). total_fee (client_of (view_of t)) p.updates < 2 ^ 63)
    go None right = tt
    go (Some p) right = total_is_small (client_of (view_of t)) a.labels a.goal p.updates is.labels is.exact right.least

-- the answer of a draft is right for its job
pub answer_right : (d : Draft) (a : Answer) (t : Task) → IsDraft d → Some a ≡ d.answer → t ≡ d.job.task → IsPlanned t a
answer_right d a t is answer task = subst (λ (u : Task). IsPlanned u a) (sym task) (subst (IsAnswer d.job.task) (sym answer) is.answer)
