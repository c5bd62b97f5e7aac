-- The exact labelling: it is sound, it is one, and it is what a recursion upwards over the heights gives.
use Rattle.std.proofs.Common.{◌≡◌, ◌↔◌, ℕ, ◌+◌, ◌≤◌, ◌⊎◌, List, [], ◌∷◌, reverse, inl, inr, ap, sym, ◌∙◌, refl, subst, arith, Some, zero, suc}
use Rattle.rb_step.specs.LightClient.{Update, Client, IsOrderly, IsAcceptable, Leaves, IsSource}
use Rattle.rb_plan_types.specs.declared.cost.Cost.{Cost}
use Rattle.rb_plan_types.specs.Order.{CostsAtMost, cost_of, no_cost, after_update}
use Rattle.rb_plan_types.specs.Labelling.{Labels, IsLabelledAtMost, IsSound, IsExact, IsAttained, LeadsTo}
use Rattle.rb_plan_types.proofs.Values.{value_of, same_value}
use Rattle.rb_plan_types.proofs.Costs.{same_cost, CostsAtMost-antisym, cost_of-cons}
use Rattle.rb_plan_types.proofs.Routes.{IsRoute, route_of, route_more, acceptable_route, leaves_route, cost_of-reverse}
use Rattle.rb_plan_types.proofs.Bounds.{bound, tight_back}

module _ (client : Client) where
  -- an acceptable list that leaves the height stored and live at this cost, and the same as a route
  abbrev pub IsReached : ℕ → Cost → Type 0
  IsReached h c = (us : List Update) × IsAcceptable client us × Leaves client us h × (cost_of client us ≡ c)

  abbrev pub IsReachedBack : ℕ → Cost → Type 0
  IsReachedBack h c = (r : List Update) × IsRoute client h r × (cost_of client r ≡ c)

  pub forward : (h : ℕ) (c : Cost) → IsReachedBack h c → IsReached h c
  forward h c (r, route, e) = (reverse r, acceptable_route client h r route, leaves_route client h r route, cost_of-reverse client r ∙ e)

  pub backward : (h : ℕ) (c : Cost) → IsReached h c → IsReachedBack h c
  backward h c (us, a, leaves, e) = (reverse us, route_of client us h a leaves, cost_of-reverse client us ∙ e)

  module _ (orderly : IsOrderly client) where
    reach_more : (t h : ℕ) (c : Cost) → client.Accepts t h → IsReachedBack t c → IsReachedBack h (after_update c (client.fee t h))
    reach_more t h c accepted (r, route, e) =
        let u : Update = record { height = h; trusted = t } in
        (u ∷ r, route_more client orderly u r accepted route, cost_of-cons client u r ∙ ap (λ (x : Cost). after_update x (client.fee t h)) e)

    module _ (label : Labels) where
      start : (h : ℕ) (c : Cost) → IsSource client h × (c ≡ no_cost) → IsReachedBack h c
      start h c (source, e) = ([], record { runs = tt; stored = source.0; live = source.1 }, sym e)

      reach : IsAttained client label → (n : ℕ) (h : ℕ) (c : Cost) → c.count ≤ n → label h ≡ Some c → IsReachedBack h c
      reach attained zero h c small is = go (attained h c is)
        where
          go : (IsSource client h × (c ≡ no_cost)) ⊎ ((t : ℕ) × LeadsTo client label t h c) → IsReachedBack h c
          go (inl source) = start h c source
          go (inr (t, (d, is-d, accepted, e))) = let k : c.count ≡ d.count + 1 = ap (λ (x : Cost). x.count) e in absurd (omega arith)
      reach attained (suc n) h c small is = go (attained h c is) (reach attained n)
        where
          go : (IsSource client h × (c ≡ no_cost)) ⊎ ((t : ℕ) × LeadsTo client label t h c) → ((t : ℕ) (d : Cost) → d.count ≤ n → label t ≡ Some d → IsReachedBack t d) → IsReachedBack h c
          go (inl source) ih = start h c source
          go (inr (t, (d, is-d, accepted, e))) ih =
              let k : c.count ≡ d.count + 1 = ap (λ (x : Cost). x.count) e in
              subst (IsReachedBack h) (sym e) (reach_more t h d accepted (ih t d (omega arith) is-d))

      -- sound, and with no label that nothing attains
      pub exact_from_attained : IsSound client label → IsAttained client label → IsExact client label
      exact_from_attained sound attained = record {
        reached = λ h c is. forward h c (reach attained c.count h c (omega arith) is);
        least = λ h us a leaves. bound client label orderly sound us h a leaves;
      }

      pub sound_from_exact : IsExact client label → IsSound client label
      sound_from_exact exact = record { sources = sources; steps = steps }
        where
          sources : (h : ℕ) → IsSource client h → label h ≡ Some no_cost
          sources h source = go (value_of (label h) _ (exact.least h [] tt source))
            where
              go : (c : Cost) × (label h ≡ Some c) × CostsAtMost c (cost_of client []) → label h ≡ Some no_cost
              go (c, is, most) =
                  let f : (cost_of client []).fee ≡ 0 = refl in
                  let n : (cost_of client []).count ≡ 0 = refl in
                  is ∙ ap Some (same_cost c no_cost (grind arith) (grind arith))

          steps : (t h : ℕ) (c : Cost) → label t ≡ Some c → client.Accepts t h → IsLabelledAtMost label h (after_update c (client.fee t h))
          steps t h c is accepted = go (forward h _ (reach_more t h c accepted (backward t c (exact.reached t c is))))
            where
              go : IsReached h (after_update c (client.fee t h)) → IsLabelledAtMost label h (after_update c (client.fee t h))
              go (us, a, leaves, e) = subst (IsLabelledAtMost label h) e (exact.least h us a leaves)

      pub attained_from_exact : IsExact client label → IsAttained client label
      attained_from_exact exact h c is = go (backward h c (exact.reached h c is))
        where
          go : IsReachedBack h c → (IsSource client h × (c ≡ no_cost)) ⊎ ((t : ℕ) × LeadsTo client label t h c)
          go ([], route, e) = inl ((route.stored, route.live), sym e)
          go (u ∷ r, route, e) =
              let tight : (u.height ≡ h) × (label u.trusted ≡ Some (cost_of client r)) = tight_back client label orderly (sound_from_exact exact) u r h route (is ∙ ap Some (sym e)) in
              inr (
                u.trusted,
                (
                  cost_of client r,
                  tight.1,
                  subst (client.Accepts u.trusted) tight.0 route.runs.1,
                  sym e ∙ cost_of-cons client u r ∙ ap (λ (x : ℕ). after_update (cost_of client r) (client.fee u.trusted x)) tight.0,
                ),
              )

      -- exact is sound and attained: what going upwards over the heights gives
      pub exact_is_upward : IsExact client label ↔ (IsSound client label × IsAttained client label)
      exact_is_upward = (λ exact. (sound_from_exact exact, attained_from_exact exact), λ both. exact_from_attained both.0 both.1)

  -- of two exact labellings, each labels what the other does, and alike
  pub exact_is_one : (label label' : Labels) → IsExact client label → IsExact client label' → (h : ℕ) (c : Cost) → label h ≡ Some c → label' h ≡ Some c
  exact_is_one label label' exact exact' h c is = go (exact.reached h c is)
    where
      at_most : (d : Cost) → (l : Labels) → IsExact client l → (l h ≡ Some d) → (e : Cost) → IsReached h e → CostsAtMost d e
      at_most d l ex is-d e (us, a, leaves, same) = found (value_of (l h) _ (ex.least h us a leaves))
        where
          found : (b : Cost) × (l h ≡ Some b) × CostsAtMost b (cost_of client us) → CostsAtMost d e
          found (b, is-b, most) = subst (CostsAtMost d) same (subst (λ (x : Cost). CostsAtMost x (cost_of client us)) (same_value (l h) b d is-b is-d) most)

      go : IsReached h c → label' h ≡ Some c
      go (us, a, leaves, same) = there (value_of (label' h) _ (exact'.least h us a leaves))
        where
          there : (d : Cost) × (label' h ≡ Some d) × CostsAtMost d (cost_of client us) → label' h ≡ Some c
          there (d, is-d, most) = is-d ∙ ap Some (CostsAtMost-antisym d c (subst (CostsAtMost d) same most) (at_most c label exact is d (exact'.reached h d is-d)))
