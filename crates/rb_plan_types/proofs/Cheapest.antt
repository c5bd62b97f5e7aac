-- The cheapest of the steps so far.
use Rattle.std.proofs.Common.{◌≡◌, ℕ, ◌⊎◌, List, [], ◌∷◌, ◌++◌, All, inl, inr, sym, ◌∙◌, refl, subst, arith, Option, Some, None, IsSomeAnd, IfSome}
use Rattle.std.specs.List.{Contains}
use Rattle.std.proofs.lemmas.List.Elements.{All-nil, All-push, All-weaker, All-contains}
use Rattle.std.proofs.lemmas.Option.{none-some, same_Some}
use Rattle.rb_step.specs.LightClient.{Client, IsSource}
use Rattle.rb_plan_types.specs.declared.cost.Cost.{Cost}
use Rattle.rb_plan_types.specs.Order.{CostsAtMost, no_cost, after_update}
use Rattle.rb_plan_types.specs.Labelling.{Labels, LeadsTo}
use Rattle.rb_plan_types.specs.Raised.{IsCheaperOf, IsCheapestStep, IsRaised}
use Rattle.rb_plan_types.proofs.Values.{same_value}
use Rattle.rb_plan_types.proofs.Costs.{CostsAtMost-trans}

module _ (client : Client) (label : Labels) (h : ℕ) where
  -- no step from the trusted height leads to less
  abbrev pub IsUndercut : Option Cost → ℕ → Type 0
  IsUndercut best t = (c : Cost) → LeadsTo client label t h c → IsSomeAnd best (λ b. CostsAtMost b c)

  -- the cheapest step from one of these trusted heights
  pub record IsCheapestOf (trusted : List ℕ) (best : Option Cost) : Type 0 where
    pub least : All (IsUndercut best) trusted
    pub attained : (b : Cost) → best ≡ Some b → (t : ℕ) × LeadsTo client label t h b

  pub cheapest_none : IsCheapestOf [] None
  cheapest_none = record { least = All-nil (IsUndercut None); attained = λ b e. absurd (none-some b e) }

  -- a trusted height more from which no step leads here
  pub cheapest_skip : (trusted : List ℕ) (best : Option Cost) (t : ℕ) → ((c : Cost) → LeadsTo client label t h c → ⊥)
      → IsCheapestOf trusted best → IsCheapestOf (trusted ++ t ∷ []) best
  cheapest_skip trusted best t nowhere so_far =
      record { least = All-push (IsUndercut best) trusted t so_far.least (λ c leads. absurd (nowhere c leads)); attained = so_far.attained }

  -- a trusted height more from which a step leads here, and the cheaper of the two costs
  pub cheapest_more : (trusted : List ℕ) (best : Option Cost) (t : ℕ) (cost new : Cost) → LeadsTo client label t h cost → IsCheaperOf best cost new
      → IsCheapestOf trusted best → IsCheapestOf (trusted ++ t ∷ []) (Some new)
  cheapest_more trusted best t cost new leads (under, under-best, either) so_far = record {
    least = All-push (IsUndercut (Some new)) trusted t (All-weaker (IsUndercut best) (IsUndercut (Some new)) lower trusted so_far.least) here;
    attained = λ b e. subst (λ (x : Cost). (t : ℕ) × LeadsTo client label t h x) (same_Some new b e) (attained either);
  }
    where
      here : IsUndercut (Some new) t
      here c (d, is-d, _, e) = (let (d', is-d', _, e') = leads in let same : d' ≡ d = same_value (label t) d' d is-d' is-d in
          subst (CostsAtMost new) (e' ∙ (λ i. after_update (same i) (client.fee t h)) ∙ sym e) under)

      lower : (k : ℕ) → IsUndercut best k → IsUndercut (Some new) k
      lower k p c leads-k = go best under-best (p c leads-k)
        where
          go : (o : Option Cost) → IfSome o (λ b. CostsAtMost new b) → IsSomeAnd o (λ b. CostsAtMost b c) → CostsAtMost new c
          go (Some b) q r = CostsAtMost-trans new b c q r
          go None q r = absurd r

      attained : (new ≡ cost) ⊎ (best ≡ Some new) → (t : ℕ) × LeadsTo client label t h new
      attained (inl e) = (t, subst (LeadsTo client label t h) (sym e) leads)
      attained (inr e) = so_far.attained new e

  -- the cheapest step of all, where the trusted heights are all from which one leads here
  pub cheapest_all : (trusted : List ℕ) (best : Option Cost) → ((t : ℕ) (c : Cost) → LeadsTo client label t h c → Contains trusted t)
      → IsCheapestOf trusted best → IsCheapestStep client label h best
  cheapest_all trusted best all so_far = record {
    least = λ t c leads. All-contains (IsUndercut best) trusted t so_far.least (all t c leads) c leads;
    attained = so_far.attained;
  }

  pub raised_source : IsSource client h → IsRaised client label h (Some no_cost)
  raised_source source = record {
    source = λ _. refl;
    least = λ t c leads. nothing c;
    attained = λ b e. inl (source, sym (same_Some no_cost b e));
  }
    where
      nothing : (c : Cost) → CostsAtMost no_cost c
      nothing c = grind arith

  pub raised_step : (best : Option Cost) → (IsSource client h → ⊥) → IsCheapestStep client label h best → IsRaised client label h best
  raised_step best not_source cheapest = record {
    source = λ source. absurd (not_source source);
    least = cheapest.least;
    attained = λ b e. inr (cheapest.attained b e);
  }
