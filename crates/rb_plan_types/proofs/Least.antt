-- A list that costs its label under a sound labelling, and takes the first heights, is the least list.
use Rattle.std.proofs.Common.{◌≡◌, ℕ, ◌<◌, ◌⊎◌, List, [], ◌∷◌, length, reverse, All, inl, inr, ap, sym, ◌∙◌, refl, subst, arith, Some}
use Rattle.std.proofs.lemmas.List.{reverse-reverse}
use Rattle.std.proofs.lemmas.List.Elements.{All-head, All-tail}
use Rattle.std.proofs.lemmas.List.Sorted.{IsPermutation-reverse, All-permutation}
use Rattle.rb_step.specs.LightClient.{Update, Client, IsOrderly, IsAcceptable, Leaves}
use Rattle.rb_plan_types.specs.declared.cost.Cost.{Cost}
use Rattle.rb_script_types.specs.declared.goal.Goal.{Goal}
use Rattle.rb_plan_types.specs.Goal.{Wants, Meets}
use Rattle.rb_plan_types.specs.Order.{IsCheaper, CostsAtMost, ComesFirst, IsEarlierList, PrecedesList, cost_of, after_update}
use Rattle.rb_plan_types.specs.Least.{IsLeast}
use Rattle.rb_plan_types.specs.Labelling.{Labels, IsSound, IsFirstTrusted, IsFirstWanted}
use Rattle.rb_plan_types.proofs.Values.{value_of, same_value}
use Rattle.rb_plan_types.proofs.Costs.{CostsAtMost-trans, not_cheaper, at_most_or_cheaper, cheaper_or_same, cost_of-cons}
use Rattle.rb_plan_types.proofs.Orders.{AreOrdered, comes_cases, precedes_cases, PrecedesList-irrefl, PrecedesList-trans, same_update}
use Rattle.rb_plan_types.proofs.Routes.{IsRoute, route_before, route_of, cost_of-reverse}
use Rattle.rb_plan_types.proofs.Bounds.{bound, bound_back, tight_back}

pub not_empty : (client : Client) (u : Update) (r : List Update) → cost_of client (u ∷ r) ≡ cost_of client [] → ⊥
not_empty client u r e = let n : length (u ∷ r) ≡ 0 = ap (λ (c : Cost). c.count) e in omega arith

-- nothing precedes the list of no updates
pub least_of_none : (client : Client) (goal : Goal) → Meets client goal [] → IsLeast client goal []
least_of_none client goal meets = record { acceptable = tt; meets = meets; least = least }
  where
    least : (vs : List Update) → IsAcceptable client vs → Meets client goal vs → PrecedesList client vs [] → ⊥
    least vs a m (inl cheaper) = let f : (cost_of client []).fee ≡ 0 = refl in let n : (cost_of client []).count ≡ 0 = refl in grind arith
    least vs a m (inr lower) = lower.1

-- there is at most one least list
pub least_is_one : (client : Client) (goal : Goal) (us vs : List Update) → IsLeast client goal us → IsLeast client goal vs → us ≡ vs
least_is_one client goal us vs p q = go (precedes_cases client us vs)
  where
    go : AreOrdered (PrecedesList client) us vs → us ≡ vs
    go (inl before) = absurd (q.least us p.acceptable p.meets before)
    go (inr (inl e)) = e
    go (inr (inr before)) = absurd (p.least vs q.acceptable q.meets before)

module _ (client : Client) (label : Labels) (orderly : IsOrderly client) (sound : IsSound client label) where
  -- of routes of one cost, which their height is labelled, that of the first trusted heights is the first
  first_of_routes : (p q : List Update) (h : ℕ) → IsRoute client h p → IsRoute client h q → label h ≡ Some (cost_of client p)
      → cost_of client q ≡ cost_of client p → All (IsFirstTrusted client label) p → IsEarlierList client.ties p q ⊎ (p ≡ q)
  first_of_routes [] [] h _ _ is same first = inr refl
  first_of_routes [] (v ∷ q) h _ _ is same first = inl tt
  first_of_routes (u ∷ p) [] h _ _ is same first = absurd (not_empty client u p (sym same))
  first_of_routes (u ∷ p) (v ∷ q) h route route' is same first = go (comes_cases client.ties u.trusted v.trusted) (first_of_routes p q u.trusted)
    where
      tight : (u.height ≡ h) × (label u.trusted ≡ Some (cost_of client p))
      tight = tight_back client label orderly sound u p h route is

      tight' : (v.height ≡ h) × (label v.trusted ≡ Some (cost_of client q))
      tight' = tight_back client label orderly sound v q h route' (is ∙ ap Some (sym same))

      heights : u.height ≡ v.height
      heights = tight.0 ∙ sym tight'.0

      -- a trusted height of the other list that comes first would lead to the same label
      none_first : ComesFirst client.ties v.trusted u.trusted → ⊥
      none_first lower =
          All-head (IsFirstTrusted client label) u p first v.trusted (cost_of client (v ∷ q)) lower
          (subst (λ (x : ℕ). label x ≡ Some (cost_of client (v ∷ q))) (sym tight.0) (is ∙ ap Some (sym same)))
          (cost_of client q, tight'.1, subst (client.Accepts v.trusted) (sym heights) route'.runs.1, cost_of-cons client v q ∙ ap (λ (x : ℕ). after_update (cost_of client q) (client.fee v.trusted x)) (sym heights))

      go : AreOrdered (ComesFirst client.ties) u.trusted v.trusted
          → (IsRoute client u.trusted p → IsRoute client u.trusted q → label u.trusted ≡ Some (cost_of client p) → cost_of client q ≡ cost_of client p → All (IsFirstTrusted client label) p → IsEarlierList client.ties p q ⊎ (p ≡ q))
          → IsEarlierList client.ties (u ∷ p) (v ∷ q) ⊎ ((u ∷ p) ≡ (v ∷ q))
      go (inl lower) ih = inl (inl (inr (heights, lower)))
      go (inr (inr higher)) ih = absurd (none_first higher)
      go (inr (inl e)) ih =
          rest (ih (route_before client orderly u p route.runs)
          (subst (λ (x : ℕ). IsRoute client x q) (sym e) (route_before client orderly v q route'.runs))
          tight.1
          (same_value (label u.trusted) _ _ (subst (λ (x : ℕ). label x ≡ Some (cost_of client q)) (sym e) tight'.1) tight.1)
          (All-tail (IsFirstTrusted client label) u p first))
        where
          one : u ≡ v
          one = same_update u v heights e

          rest : IsEarlierList client.ties p q ⊎ (p ≡ q) → IsEarlierList client.ties (u ∷ p) (v ∷ q) ⊎ ((u ∷ p) ≡ (v ∷ q))
          rest (inl lower) = inl (inr (one, lower))
          rest (inr s) = inr (cc (one, s))

  -- the order of lists, both read from the last update back
  abbrev PrecedesBack : List Update → List Update → Type 0
  PrecedesBack p q = IsCheaper (cost_of client p) (cost_of client q) ⊎ ((cost_of client p ≡ cost_of client q) × IsEarlierList client.ties p q)

  module _ (goal : Goal) (p : List Update) (g : ℕ) (route : IsRoute client g p) (is : label g ≡ Some (cost_of client p))
      (wanted : IsFirstWanted client.ties label goal (cost_of client p) g) (first : All (IsFirstTrusted client label) p) where
    -- a route to a later height at the same cost ends later
    ends_first : (p' q : List Update) (k : ℕ) → p ≡ p' → IsRoute client k q → label k ≡ Some (cost_of client q) → cost_of client p ≡ cost_of client q → ComesFirst client.ties g k → IsEarlierList client.ties p' q ⊎ (p' ≡ q)
    ends_first [] [] k e route' is' same lower = inr refl
    ends_first [] (v ∷ q) k e route' is' same lower = inl tt
    ends_first (u ∷ p') [] k e route' is' same lower = absurd (not_empty client u p' (ap (cost_of client) (sym e) ∙ same))
    ends_first (u ∷ p') (v ∷ q) k e route' is' same lower =
        let tight : (u.height ≡ g) × (label u.trusted ≡ Some (cost_of client p')) = tight_back client label orderly sound u p' g (subst (IsRoute client g) e route) (is ∙ ap (λ (x : List Update). Some (cost_of client x)) e) in
        let tight' : (v.height ≡ k) × (label v.trusted ≡ Some (cost_of client q)) = tight_back client label orderly sound v q k route' is' in
        inl (inl (inl (subst (λ (x : ℕ). ComesFirst client.ties x v.height) (sym tight.0) (subst (ComesFirst client.ties g) (sym tight'.0) lower))))

    first_back : (q : List Update) (k : ℕ) → IsRoute client k q → Wants goal k → PrecedesBack p q ⊎ (p ≡ q)
    first_back q k route' wants = go (value_of (label k) _ (bound_back client label orderly sound q k route'))
      where
        tie : cost_of client p ≡ cost_of client q → IsEarlierList client.ties p q ⊎ (p ≡ q) → PrecedesBack p q ⊎ (p ≡ q)
        tie same (inl lower) = inl (inr (same, lower))
        tie same (inr e) = inr e

        at : cost_of client p ≡ cost_of client q → label k ≡ Some (cost_of client q) → AreOrdered (ComesFirst client.ties) g k → PrecedesBack p q ⊎ (p ≡ q)
        at same is' (inl lower) = tie same (ends_first p q k refl route' is' same lower)
        at same is' (inr (inl e)) = tie same (first_of_routes p q g route (subst (λ (x : ℕ). IsRoute client x q) (sym e) route') is (sym same) first)
        at same is' (inr (inr higher)) = absurd (wanted k (cost_of client q) is' wants (inr (sym same, higher)))

        go : (c : Cost) × (label k ≡ Some c) × CostsAtMost c (cost_of client q) → PrecedesBack p q ⊎ (p ≡ q)
        go (c, is-c, most) = under (at_most_or_cheaper (cost_of client p) c)
          where
            squeeze : cost_of client p ≡ cost_of client q → IsCheaper (cost_of client p) c ⊎ (cost_of client p ≡ c) → PrecedesBack p q ⊎ (p ≡ q)
            squeeze same (inl cheaper) = absurd (not_cheaper c (cost_of client p) (subst (CostsAtMost c) (sym same) most) cheaper)
            squeeze same (inr e) = at same (is-c ∙ ap Some (sym e ∙ same)) (comes_cases client.ties g k)

            total : CostsAtMost (cost_of client p) c → IsCheaper (cost_of client p) (cost_of client q) ⊎ (cost_of client p ≡ cost_of client q) → PrecedesBack p q ⊎ (p ≡ q)
            total most' (inl cheaper) = inl (inl cheaper)
            total most' (inr same) = squeeze same (cheaper_or_same (cost_of client p) c most')

            under : CostsAtMost (cost_of client p) c ⊎ IsCheaper c (cost_of client p) → PrecedesBack p q ⊎ (p ≡ q)
            under (inr cheaper) = absurd (wanted k c is-c wants (inl cheaper))
            under (inl most') = total most' (cheaper_or_same _ _ (CostsAtMost-trans (cost_of client p) c (cost_of client q) most' most))

  -- the theorem of planner and certifier: an acceptable list is least where it leaves a wanted height that is
  -- labelled with its cost and before which no wanted label comes, and has no trusted tie that comes first
  pub least_from_labels : (goal : Goal) (us : List Update) (g : ℕ) → IsAcceptable client us → Leaves client us g → Wants goal g
      → label g ≡ Some (cost_of client us) → IsFirstWanted client.ties label goal (cost_of client us) g → All (IsFirstTrusted client label) us → IsLeast client goal us
  least_from_labels goal us g a leaves wants is wanted first = record { acceptable = a; meets = (g, leaves, wants); least = least }
    where
      cost_back : cost_of client us ≡ cost_of client (reverse us)
      cost_back = sym (cost_of-reverse client us)

      back : (vs : List Update) → PrecedesBack (reverse us) (reverse vs) → PrecedesList client us vs
      back vs p =
          subst (λ (x : Cost × Cost). IsCheaper x.0 x.1 ⊎ ((x.0 ≡ x.1) × IsEarlierList client.ties (reverse us) (reverse vs)))
          (λ i. (cost_of-reverse client us i, cost_of-reverse client vs i)) p

      least : (vs : List Update) → IsAcceptable client vs → Meets client goal vs → PrecedesList client vs us → ⊥
      least vs va (k, leaves', wants') before =
          go (first_back goal (reverse us) g (route_of client us g a leaves) (is ∙ ap Some cost_back) (subst (λ (x : Cost). IsFirstWanted client.ties label goal x g) cost_back wanted)
          (All-permutation (IsFirstTrusted client label) us (reverse us) (IsPermutation-reverse us) first) (reverse vs) k (route_of client vs k va leaves') wants')
        where
          go : PrecedesBack (reverse us) (reverse vs) ⊎ (reverse us ≡ reverse vs) → ⊥
          go (inl p) = PrecedesList-irrefl client us (PrecedesList-trans client us vs us (back vs p) before)
          go (inr same) =
              let e : vs ≡ us = sym (reverse-reverse vs) ∙ ap reverse (sym same) ∙ reverse-reverse us in
              PrecedesList-irrefl client us (subst (λ (x : List Update). PrecedesList client x us) e before)

  -- the same for a list that is known to meet the goal and not by which height: it is by the last one
  pub least_from_last : (goal : Goal) (us : List Update) → IsAcceptable client us → Meets client goal us
      → ((u : Update) (r : List Update) → reverse us ≡ u ∷ r → IsFirstWanted client.ties label goal (cost_of client us) u.height)
      → All (IsFirstTrusted client label) us → IsLeast client goal us
  least_from_last goal us a (g, leaves, wants) wanted first = go (reverse us) refl
    where
      go : (p : List Update) → reverse us ≡ p → IsLeast client goal us
      go [] e =
          let none : us ≡ [] = sym (reverse-reverse us) ∙ ap reverse e in
          subst (IsLeast client goal) (sym none) (least_of_none client goal (subst (Meets client goal) none (g, leaves, wants)))
      go (u ∷ r) e = least_from_labels goal us g a leaves wants is (subst (IsFirstWanted client.ties label goal (cost_of client us)) last (wanted u r e)) first
        where
          at_least : (c : Cost) → label g ≡ Some c → IsCheaper c (cost_of client us) ⊎ (c ≡ cost_of client us) → label g ≡ Some (cost_of client us)
          at_least c is-c (inl cheaper) = absurd (wanted u r e g c is-c wants (inl cheaper))
          at_least c is-c (inr same) = is-c ∙ ap Some same

          labelled : (c : Cost) × (label g ≡ Some c) × CostsAtMost c (cost_of client us) → label g ≡ Some (cost_of client us)
          labelled (c, is-c, most) = at_least c is-c (cheaper_or_same c (cost_of client us) most)

          is : label g ≡ Some (cost_of client us)
          is = labelled (value_of (label g) _ (bound client label orderly sound us g a leaves))

          last : u.height ≡ g
          last = (tight_back client label orderly sound u r g (subst (IsRoute client g) e (route_of client us g a leaves)) (is ∙ ap Some (sym (cost_of-reverse client us) ∙ ap (cost_of client) e))).0
