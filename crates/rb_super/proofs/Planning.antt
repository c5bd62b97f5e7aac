-- Clients that are alike have the same labellings, the same least lists and the same reach.
use Rattle.std.proofs.Common.{◌≡◌, ℕ, ◌≤◌, List, [], ◌∷◌, reverse, Option, Some, None, inl, inr, refl, sym, ◌∙◌, subst}
use Rattle.std.specs.List.{All}
use Rattle.std.specs.Option.{IfSome}
use Rattle.std.proofs.lemmas.List.Elements.{All-nil, All-cons}
use Rattle.rb_base.specs.declared.ties.Ties.{Ties}
use Rattle.rb_script_types.specs.declared.goal.Goal.{Goal}
use Rattle.rb_step.specs.LightClient.{Update, Client, Runs, IsAcceptable, Leaves}
use Rattle.rb_plan_types.specs.declared.cost.Cost.{Cost}
use Rattle.rb_plan_types.specs.Goal.{Meets}
use Rattle.rb_plan_types.specs.Labelling.{Labels, IsExact, IsLabelledAtMost}
use Rattle.rb_plan_types.specs.Least.{IsLeast, IsUnreachable}
use Rattle.rb_plan_types.specs.Order.{IsCheaper, IsEarlierList, PrecedesList, cost_of, after_update}
use Rattle.rb_plan_types.specs.ProofHeight.{IsProofHeight}
use Rattle.rb_plan_types.proofs.Costs.{cost_of-cons}
use Rattle.rb_super.specs.Alike.{SeesFrom, AreAlike}
use Rattle.rb_super.proofs.Runs.{Stores, acceptable, leaves, above, stores_more}

-- the update trusts no height below, and leads to none
abbrev pub IsAbove : ℕ → Update → Type 0
IsAbove m u = (m ≤ u.trusted) × (m ≤ u.height)

module _ (m : ℕ) (c d : Client) (sees : SeesFrom m c d) where
  costs : (xs ys : List ℕ) (us : List Update) → Stores m c d sees xs ys → Runs c xs us → cost_of c us ≡ cost_of d us
  costs xs ys [] stores r = refl
  costs xs ys (u ∷ us) stores (has, accepted, rest) =
      let there = stores u.trusted has (sees.trusts_live u.trusted u.height accepted) in
      let fee = sees.fee u.trusted u.height there.0 accepted in
      let more = costs (u.height ∷ xs) (u.height ∷ ys) us (stores_more m c d sees xs ys u.height (above m c d sees u.trusted u.height there.0 accepted) stores) rest in
      cost_of-cons c u us ∙ (λ i. after_update (more i) (fee i)) ∙ sym (cost_of-cons d u us)

  pub same_cost : (us : List Update) → IsAcceptable c us → cost_of c us ≡ cost_of d us
  same_cost us a = costs c.stored d.stored us sees.stored a

  all_above : (xs ys : List ℕ) (us : List Update) → Stores m c d sees xs ys → Runs c xs us → All (IsAbove m) us
  all_above xs ys [] stores r = All-nil (IsAbove m)
  all_above xs ys (u ∷ us) stores (has, accepted, rest) =
      let there = stores u.trusted has (sees.trusts_live u.trusted u.height accepted) in
      let high = above m c d sees u.trusted u.height there.0 accepted in
      All-cons (IsAbove m) u us (there.0, high) (all_above (u.height ∷ xs) (u.height ∷ ys) us (stores_more m c d sees xs ys u.height high stores) rest)

  -- an acceptable list trusts no height below
  pub updates_above : (us : List Update) → IsAcceptable c us → All (IsAbove m) us
  updates_above us a = all_above c.stored d.stored us sees.stored a

  pub meets : (goal : Goal) (us : List Update) → IsAcceptable c us → Meets c goal us → Meets d goal us
  meets goal us a (h, at, wants) = (h, (leaves m c d sees us h a at).1, wants)

module _ (m : ℕ) (c d : Client) (alike : AreAlike m c d) where
  pub exact : (label : Labels) → IsExact c label → IsExact d label
  exact label is = record {
    reached = λ h x e.
        let way = is.reached h x e in
        (way.0, acceptable m c d alike.there way.0 way.1, (leaves m c d alike.there way.0 h way.1 way.2).1, sym (same_cost m c d alike.there way.0 way.1) ∙ way.3);
    least = λ h us a at.
        let a' = acceptable m d c alike.back us a in
        subst (IsLabelledAtMost label h) (same_cost m c d alike.there us a') (is.least h us a' (leaves m d c alike.back us h a at).1);
  }

  precedes : (us vs : List Update) → IsAcceptable d us → IsAcceptable d vs → PrecedesList d us vs → PrecedesList c us vs
  precedes us vs a b (inl cheaper) =
      inl (subst (λ (x : Cost). IsCheaper x (cost_of c vs)) (same_cost m d c alike.back us a) (subst (λ (x : Cost). IsCheaper (cost_of d us) x) (same_cost m d c alike.back vs b) cheaper))
  precedes us vs a b (inr (tie, lower)) = inr (sym (same_cost m d c alike.back us a) ∙ tie ∙ same_cost m d c alike.back vs b, subst (λ (x : Ties). IsEarlierList x (reverse us) (reverse vs)) (sym alike.ties) lower)

  pub least : (goal : Goal) (us : List Update) → IsLeast c goal us → IsLeast d goal us
  least goal us is = record {
    acceptable = acceptable m c d alike.there us is.acceptable;
    meets = meets m c d alike.there goal us is.acceptable is.meets;
    least = λ vs a at before.
        is.least vs (acceptable m d c alike.back vs a) (meets m d c alike.back goal vs a at)
        (precedes vs us a (acceptable m c d alike.there us is.acceptable) before);
  }

  pub unreachable : (goal : Goal) → IsUnreachable c goal → IsUnreachable d goal
  unreachable goal none us a at = none us (acceptable m d c alike.back us a) (meets m d c alike.back goal us a at)

  pub proof_height : (us : List Update) (top : Option ℕ) → IsAcceptable c us → IsProofHeight c us top → IsProofHeight d us top
  proof_height us top a is = record {
    left = go top is.left;
    greatest = λ h at. is.greatest h (leaves m d c alike.back us h (acceptable m c d alike.there us a) at).1;
  }
    where
      go : (o : Option ℕ) → IfSome o (Leaves c us) → IfSome o (Leaves d us)
      go None l = l
      go (Some h) l = (leaves m c d alike.there us h a l).1
