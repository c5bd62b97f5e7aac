-- With the exact labelling, the least list costs its labels and takes the first heights.
use Rattle.std.proofs.Common.{◌≡◌, ℕ, ◌<◌, ◌⊎◌, List, [], ◌∷◌, reverse, All, inl, inr, ap, sym, ◌∙◌, refl, subst, Some}
use Rattle.std.proofs.lemmas.List.{reverse-reverse}
use Rattle.std.proofs.lemmas.List.Elements.{All-nil, All-cons}
use Rattle.std.proofs.lemmas.List.Sorted.{IsPermutation-reverse, All-permutation}
use Rattle.rb_step.specs.LightClient.{Update, Client, IsOrderly}
use Rattle.rb_plan_types.specs.declared.cost.Cost.{Cost}
use Rattle.rb_script_types.specs.declared.goal.Goal.{Goal}
use Rattle.rb_plan_types.specs.Goal.{Wants}
use Rattle.rb_plan_types.specs.Order.{IsCheaper, CostsAtMost, ComesFirst, IsEarlierList, cost_of, after_update}
use Rattle.rb_plan_types.specs.Least.{IsLeast, IsUnreachable}
use Rattle.rb_plan_types.specs.Labelling.{Labels, IsSound, IsExact, IsFirstTrusted, IsFirstWanted}
use Rattle.rb_plan_types.proofs.Values.{value_of, same_value}
use Rattle.rb_plan_types.proofs.Costs.{cheaper_or_same, cost_of-cons}
use Rattle.rb_plan_types.proofs.Routes.{IsRoute, route_of, route_before, route_more, acceptable_route, leaves_route, cost_of-reverse}
use Rattle.rb_plan_types.proofs.Bounds.{tight_back}
use Rattle.rb_plan_types.proofs.Exact.{IsReached, IsReachedBack, backward, sound_from_exact}
use Rattle.rb_plan_types.proofs.Least.{not_empty}

module _ (client : Client) (label : Labels) where
  -- each height costs its label at its place, in a list that is read from the last update back
  abbrev pub AreTight : List Update → Type 0
  AreTight [] = Unit {0}
  AreTight (u ∷ r) = (label u.height ≡ Some (cost_of client (u ∷ r))) × AreTight r

  module _ (orderly : IsOrderly client) where
    -- a route that costs its height's label costs the labels all along
    pub tight_all : IsSound client label → (p : List Update) (h : ℕ) → IsRoute client h p → label h ≡ Some (cost_of client p) → AreTight p
    tight_all sound [] h route is = tt
    tight_all sound (u ∷ r) h route is =
        let tight : (u.height ≡ h) × (label u.trusted ≡ Some (cost_of client r)) = tight_back client label orderly sound u r h route is in
        (subst (λ (x : ℕ). label x ≡ Some (cost_of client (u ∷ r))) (sym tight.0) is, tight_all sound r u.trusted (route_before client orderly u r route.runs) tight.1)

    module _ (exact : IsExact client label) where
      sound : IsSound client label
      sound = sound_from_exact client orderly label exact

      -- before a route that costs its height's label none of the same cost comes only if it takes the first
      -- trusted heights
      ties_back : (p : List Update) (h : ℕ) → IsRoute client h p → label h ≡ Some (cost_of client p)
          → ((q : List Update) → IsRoute client h q → cost_of client q ≡ cost_of client p → IsEarlierList client.ties q p → ⊥) → All (IsFirstTrusted client label) p
      ties_back [] h route is none = All-nil (IsFirstTrusted client label)
      ties_back (u ∷ r) h route is none =
          All-cons (IsFirstTrusted client label) u r first (ties_back r u.trusted (route_before client orderly u r route.runs) tight.1 rest)
        where
          tight : (u.height ≡ h) × (label u.trusted ≡ Some (cost_of client r))
          tight = tight_back client label orderly sound u r h route is

          first : IsFirstTrusted client label u
          first t c lower is-h (d, is-d, accepted, e) = go (backward client t d (exact.reached t d is-d))
            where
              go : IsReachedBack client t d → ⊥
              go (q, route', same) =
                  let v : Update = record { height = u.height; trusted = t } in
                  let total : c ≡ cost_of client (u ∷ r) = same_value (label u.height) _ _ is-h (subst (λ (x : ℕ). label x ≡ Some (cost_of client (u ∷ r))) (sym tight.0) is) in
                  none (v ∷ q) (subst (λ (x : ℕ). IsRoute client x (v ∷ q)) tight.0 (route_more client orderly v q accepted route'))
                  (cost_of-cons client v q ∙ ap (λ (x : Cost). after_update x (client.fee t u.height)) same ∙ sym e ∙ total) (inl (inr (refl, lower)))

          rest : (q : List Update) → IsRoute client u.trusted q → cost_of client q ≡ cost_of client r → IsEarlierList client.ties q r → ⊥
          rest q route' same lower =
              none (u ∷ q) (subst (λ (x : ℕ). IsRoute client x (u ∷ q)) tight.0 (route_more client orderly u q route.runs.1 route'))
              (cost_of-cons client u q ∙ ap (λ (x : Cost). after_update x (client.fee u.trusted u.height)) same ∙ sym (cost_of-cons client u r)) (inr (refl, lower))

      module _ (goal : Goal) (us : List Update) (least : IsLeast client goal us) where
        g : ℕ
        g = least.meets.0

        route : IsRoute client least.meets.0 (reverse us)
        route = route_of client us least.meets.0 least.acceptable least.meets.1

        total_is_label : label least.meets.0 ≡ Some (cost_of client us)
        total_is_label = go (value_of (label least.meets.0) _ (exact.least least.meets.0 us least.acceptable least.meets.1))
          where
            go : (c : Cost) × (label least.meets.0 ≡ Some c) × CostsAtMost c (cost_of client us) → label least.meets.0 ≡ Some (cost_of client us)
            go (c, is, most) = there (exact.reached least.meets.0 c is) (cheaper_or_same c (cost_of client us) most)
              where
                there : IsReached client least.meets.0 c → IsCheaper c (cost_of client us) ⊎ (c ≡ cost_of client us) → label least.meets.0 ≡ Some (cost_of client us)
                there _ (inr same) = is ∙ ap Some same
                there (vs, va, leaves, e) (inl cheaper) =
                    absurd (least.least vs va (least.meets.0, leaves, least.meets.2) (inl (subst (λ (x : Cost). IsCheaper x (cost_of client us)) (sym e) cheaper)))

        total_back : label least.meets.0 ≡ Some (cost_of client (reverse us))
        total_back = total_is_label ∙ ap Some (sym (cost_of-reverse client us))

        pub tight_of_least : AreTight (reverse us)
        tight_of_least = tight_all sound (reverse us) least.meets.0 route total_back

        pub first_trusted_of_least : All (IsFirstTrusted client label) us
        first_trusted_of_least = subst (All (IsFirstTrusted client label)) (reverse-reverse us) (All-permutation (IsFirstTrusted client label) (reverse us) (reverse (reverse us)) (IsPermutation-reverse (reverse us)) back)
          where
            none : (q : List Update) → IsRoute client least.meets.0 q → cost_of client q ≡ cost_of client (reverse us) → IsEarlierList client.ties q (reverse us) → ⊥
            none q route' same lower =
                least.least (reverse q) (acceptable_route client least.meets.0 q route') (least.meets.0, leaves_route client least.meets.0 q route', least.meets.2)
                (inr (cost_of-reverse client q ∙ same ∙ cost_of-reverse client us, subst (λ (x : List Update). IsEarlierList client.ties x (reverse us)) (sym (reverse-reverse q)) lower))

            back : All (IsFirstTrusted client label) (reverse us)
            back = ties_back (reverse us) least.meets.0 route total_back none

        pub first_wanted_of_least : (u : Update) (r : List Update) → reverse us ≡ u ∷ r → IsFirstWanted client.ties label goal (cost_of client us) u.height
        first_wanted_of_least u r e h c is wants before = go (exact.reached h c is) before
          where
            last : u.height ≡ least.meets.0
            last = (tight_back client label orderly sound u r least.meets.0 (subst (IsRoute client least.meets.0) e route) (total_back ∙ ap (λ (x : List Update). Some (cost_of client x)) e)).0

            same_end : cost_of client (u ∷ r) ≡ cost_of client us
            same_end = ap (cost_of client) (sym e) ∙ cost_of-reverse client us

            ends : (q : List Update) → IsRoute client h q → cost_of client q ≡ c → c ≡ cost_of client us → ComesFirst client.ties h u.height → IsEarlierList client.ties q (u ∷ r)
            ends [] route' same tie lower = absurd (not_empty client u r (same_end ∙ sym tie ∙ sym same))
            ends (v ∷ q) route' same tie lower =
                let tight : (v.height ≡ h) × (label v.trusted ≡ Some (cost_of client q)) = tight_back client label orderly sound v q h route' (is ∙ ap Some (sym same)) in
                inl (inl (subst (λ (x : ℕ). ComesFirst client.ties x u.height) (sym tight.0) lower))

            go : IsReached client h c → IsCheaper c (cost_of client us) ⊎ ((c ≡ cost_of client us) × ComesFirst client.ties h u.height) → ⊥
            go (vs, va, leaves, same) (inl cheaper) = least.least vs va (h, leaves, wants) (inl (subst (λ (x : Cost). IsCheaper x (cost_of client us)) (sym same) cheaper))
            go (vs, va, leaves, same) (inr (tie, lower)) =
                least.least vs va (h, leaves, wants)
                (inr (same ∙ tie, subst (IsEarlierList client.ties (reverse vs)) (sym e) (ends (reverse vs) (route_of client vs h va leaves) (cost_of-reverse client vs ∙ same) tie lower)))

      -- where no acceptable list meets the goal, no height that it wants is labelled
      pub unlabelled_of_unreachable : (goal : Goal) → IsUnreachable client goal → (h : ℕ) (c : Cost) → label h ≡ Some c → Wants goal h → ⊥
      unlabelled_of_unreachable goal none h c is wants = go (exact.reached h c is)
        where
          go : IsReached client h c → ⊥
          go (us, a, leaves, _) = none us a (h, leaves, wants)
