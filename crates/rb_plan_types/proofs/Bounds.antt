-- What a sound labelling says of every acceptable list.
use Rattle.std.proofs.Common.{◌≡◌, ℕ, ◌⊎◌, List, [], ◌∷◌, reverse, inl, inr, ap, sym, ◌∙◌, subst, Some}
use Rattle.rb_step.specs.LightClient.{Update, Client, IsOrderly, IsAcceptable, IsStoredAfter, Leaves}
use Rattle.rb_plan_types.specs.declared.cost.Cost.{Cost}
use Rattle.rb_script_types.specs.declared.goal.Goal.{Goal}
use Rattle.rb_plan_types.specs.Goal.{Wants}
use Rattle.rb_plan_types.specs.Order.{CostsAtMost, cost_of, no_cost, after_update}
use Rattle.rb_plan_types.specs.Least.{IsUnreachable}
use Rattle.rb_plan_types.specs.Labelling.{Labels, IsLabelledAtMost, IsSound}
use Rattle.rb_plan_types.proofs.Values.{value_of, some_and, same_value}
use Rattle.rb_plan_types.proofs.Costs.{CostsAtMost-refl, CostsAtMost-trans, CostsAtMost-after, CostsAtMost-before, CostsAtMost-more, CostsAtMost-antisym, not_free, cost_of-cons}
use Rattle.rb_plan_types.proofs.Routes.{IsRoute, route_before, route_of, cost_of-reverse}

module _ (client : Client) (label : Labels) (orderly : IsOrderly client) (sound : IsSound client label) where
  -- a sound label is at most what any route to its height costs
  pub bound_back : (r : List Update) (h : ℕ) → IsRoute client h r → IsLabelledAtMost label h (cost_of client r)
  bound_back [] h route = some_and (label h) _ no_cost (sound.sources h (route.stored, route.live)) (CostsAtMost-refl no_cost)
  bound_back (u ∷ r) h route = go route.stored (bound_back r)
    where
      IsBounded : Type 0
      IsBounded = IsLabelledAtMost label h (cost_of client (u ∷ r))

      from : (c : Cost) → label h ≡ Some c → CostsAtMost c (after_update (cost_of client r) (client.fee u.trusted u.height)) → IsBounded
      from c is most = some_and (label h) _ c is (subst (CostsAtMost c) (sym (cost_of-cons client u r)) most)

      go : (u.height ≡ h) ⊎ IsStoredAfter client r h → ((k : ℕ) → IsRoute client k r → IsLabelledAtMost label k (cost_of client r)) → IsBounded
      go (inl e) ih = trusted (value_of (label u.trusted) _ (ih u.trusted (route_before client orderly u r route.runs)))
        where
          trusted : (c : Cost) × (label u.trusted ≡ Some c) × CostsAtMost c (cost_of client r) → IsBounded
          trusted (c, is, most) = last (value_of (label u.height) _ (sound.steps u.trusted u.height c is route.runs.1))
            where
              last : (d : Cost) × (label u.height ≡ Some d) × CostsAtMost d (after_update c (client.fee u.trusted u.height)) → IsBounded
              last (d, is-d, most-d) =
                  from d (subst (λ (x : ℕ). label x ≡ Some d) e is-d) (CostsAtMost-trans d _ _ most-d (CostsAtMost-after c (cost_of client r) _ most))
      go (inr s) ih = more (value_of (label h) _ (ih h (record { runs = route.runs.2; stored = s; live = route.live })))
        where
          more : (c : Cost) × (label h ≡ Some c) × CostsAtMost c (cost_of client r) → IsBounded
          more (c, is, most) = from c is (CostsAtMost-more c (cost_of client r) _ most)

  -- and so is it of any acceptable list that leaves the height stored and live
  pub bound : (us : List Update) (h : ℕ) → IsAcceptable client us → Leaves client us h → IsLabelledAtMost label h (cost_of client us)
  bound us h a leaves = subst (IsLabelledAtMost label h) (cost_of-reverse client us) (bound_back (reverse us) h (route_of client us h a leaves))

  -- where no height that the goal wants is labelled, no acceptable list meets the goal
  pub unreachable_from_labels : (goal : Goal) → ((h : ℕ) (c : Cost) → label h ≡ Some c → Wants goal h → ⊥) → IsUnreachable client goal
  unreachable_from_labels goal none us a (h, leaves, wants) = go (value_of (label h) _ (bound us h a leaves))
    where
      go : (c : Cost) × (label h ≡ Some c) × CostsAtMost c (cost_of client us) → ⊥
      go (c, is, _) = none h c is wants

  -- a route that costs what its height is labelled ends with that height, and what goes before costs what the
  -- trusted height is labelled
  pub tight_back : (u : Update) (r : List Update) (h : ℕ) → IsRoute client h (u ∷ r) → label h ≡ Some (cost_of client (u ∷ r))
      → (u.height ≡ h) × (label u.trusted ≡ Some (cost_of client r))
  tight_back u r h route is = go route.stored
    where
      IsTight : Type 0
      IsTight = (u.height ≡ h) × (label u.trusted ≡ Some (cost_of client r))

      go : (u.height ≡ h) ⊎ IsStoredAfter client r h → IsTight
      go (inl e) = (e, trusted (value_of (label u.trusted) _ (bound_back r u.trusted (route_before client orderly u r route.runs))))
        where
          trusted : (c : Cost) × (label u.trusted ≡ Some c) × CostsAtMost c (cost_of client r) → label u.trusted ≡ Some (cost_of client r)
          trusted (c, is-c, most) = last (value_of (label u.height) _ (sound.steps u.trusted u.height c is-c route.runs.1))
            where
              last : (d : Cost) × (label u.height ≡ Some d) × CostsAtMost d (after_update c (client.fee u.trusted u.height)) → label u.trusted ≡ Some (cost_of client r)
              last (d, is-d, most-d) =
                  let same : d ≡ after_update (cost_of client r) (client.fee u.trusted u.height) = same_value (label h) _ _ (subst (λ (x : ℕ). label x ≡ Some d) e is-d) is ∙ cost_of-cons client u r in
                  let over : CostsAtMost (cost_of client r) c = CostsAtMost-before (cost_of client r) c (client.fee u.trusted u.height) (subst (λ (x : Cost). CostsAtMost x (after_update c (client.fee u.trusted u.height))) same most-d) in
                  is-c ∙ ap Some (CostsAtMost-antisym c (cost_of client r) most over)
      go (inr s) = absurd (free (value_of (label h) _ (bound_back r h (record { runs = route.runs.2; stored = s; live = route.live }))))
        where
          free : (c : Cost) × (label h ≡ Some c) × CostsAtMost c (cost_of client r) → ⊥
          free (c, is-c, most) = not_free c (cost_of client r) (client.fee u.trusted u.height) most (same_value (label h) _ _ is-c is ∙ cost_of-cons client u r)
