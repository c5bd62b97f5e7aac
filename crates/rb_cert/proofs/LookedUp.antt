-- What is looked up of the records, up to a place and of all.
use Rattle.std.proofs.Common.{◌≡◌, ◌≢◌, ℕ, ◌+◌, ◌<◌, ◌≤◌, ◌⊎◌, List, length, get_or, set, inl, inr, ap, sym, ◌∙◌, refl, subst, arith, Option, Some, None, slice_get, get_or-set_same, get_or-set_other}
use Rattle.std.specs.Option.{IsSomeAnd}
use Rattle.std.proofs.lemmas.List.{length-set}
use Rattle.std.proofs.lemmas.Option.{same_Some, slice_get_within, slice_get-get_or, get_or_from_slice_get}
use Rattle.rb_book.specs.Book.{RecordAt}
use Rattle.rb_step.specs.LightClient.{IsOrderly}
use Rattle.rb_step.specs.View.{View, client_of}
use Rattle.rb_plan_types.specs.declared.cost.Cost.{Cost}
use Rattle.rb_plan_types.specs.Labelling.{Labels}
use Rattle.rb_plan_types.specs.Order.{CostsAtMost, after_update}
use Rattle.rb_plan_types.proofs.Costs.{CostsAtMost-trans, CostsAtMost-fee}
use Rattle.rb_cert.specs.Refusal.{IsTooHigh}
use Rattle.rb_cert.specs.declared.trusted.Trusted.{Trusted}
use Rattle.rb_cert.specs.Trusted.{IsLookedUp, AreLookedUp, LeadsLower}
use Rattle.rb_cert.proofs.Rising.{earlier_or_here}

-- a label that is no more than a cost is no more than one of a higher fee
pub at_most_more : (label : Option Cost) (from : Cost) (least fee : ℕ) → least ≤ fee → IsSomeAnd label (λ d. CostsAtMost d (after_update from least)) → IsSomeAnd label (λ d. CostsAtMost d (after_update from fee))
at_most_more None from least fee below none = none
at_most_more (Some d) from least fee below most = CostsAtMost-trans d (after_update from least) (after_update from fee) most (CostsAtMost-fee from least fee below)

module _ (v : View) (label : Labels) where
  abbrev pub AreLookedUpBefore : List Trusted → ℕ → Type 0
  AreLookedUpBefore found i = (p : ℕ) (k : RecordAt) (t : Trusted) → p < i → slice_get v.book.records p ≡ Some k → slice_get found p ≡ Some t → IsLookedUp v label k t

  pub one_more : (found : List Trusted) (i : ℕ) (x : RecordAt) (t : Trusted) → slice_get v.book.records i ≡ Some x → IsLookedUp v label x t → AreLookedUpBefore found i → AreLookedUpBefore (set found i t) (i + 1)
  one_more found i x t at is so_far p k y less at' entry = go (earlier_or_here p i less)
    where
      within : p < length found
      within = let l : p < length (set found i t) = slice_get_within (set found i t) p y entry in omega (arith, l, length-set found i t)

      go : (p < i) ⊎ (i ≡ p) → IsLookedUp v label k y
      go (inl before) =
          let apart : p ≢ i = omega arith in
          let read : get_or found p y ≡ y = sym (get_or-set_other found i p t y apart) ∙ get_or_from_slice_get (set found i t) p y y entry in
          so_far p k y before at' (slice_get-get_or found p y within ∙ ap Some read)
      go (inr same) =
          let here : y ≡ t = sym (get_or_from_slice_get (set found i t) p y y entry) ∙ ap (λ (j : ℕ). get_or (set found i t) j y) (sym same) ∙ get_or-set_same found i t y (omega (arith, within, same)) in
          let known : x ≡ k = same_Some x k (sym at ∙ ap (slice_get v.book.records) same ∙ at') in
          subst (IsLookedUp v label k) (sym here) (subst (λ (z : RecordAt). IsLookedUp v label z t) known is)

  pub all_looked_up : (found : List Trusted) (i : ℕ) → length v.book.records ≤ i → AreLookedUpBefore found i → AreLookedUp found v label
  all_looked_up found i whole so_far p k t at entry =
      let l : p < length v.book.records = slice_get_within v.book.records p k at in
      so_far p k t (omega (arith, l, whole)) at entry

  -- a step leads there for less from what was looked up where it does by the labels
  module _ (orderly : IsOrderly (client_of v)) (k : RecordAt) (t : Trusted) (looked : IsLookedUp v label k t) (h : ℕ) (o : Option Cost) (is : o ≡ label h) where
    pub too_high : LeadsLower t.cost ((client_of v).fee k.height h) o → (client_of v).Accepts k.height h → IsTooHigh (client_of v) label k.height h
    too_high lower accepted = go t.cost refl lower
      where
        go : (from : Option Cost) → t.cost ≡ from → LeadsLower from ((client_of v).fee k.height h) o → IsTooHigh (client_of v) label k.height h
        go None e never = absurd never
        go (Some c) e above =
            let found : (client_of v).IsLive k.height × (label k.height ≡ Some c) = (looked.cost c).0 e in
            (c, found.1, accepted, λ low. above (subst (λ (x : Option Cost). IsSomeAnd x (λ d. CostsAtMost d (after_update c ((client_of v).fee k.height h)))) (sym is) low))

    pub leads_lower : IsTooHigh (client_of v) label k.height h → LeadsLower t.cost ((client_of v).fee k.height h) o × (client_of v).Accepts k.height h
    leads_lower (c, labelled, accepted, above) =
        let from : t.cost ≡ Some c = (looked.cost c).1 (orderly.trusts_live k.height h accepted, labelled) in
        let lower : LeadsLower (Some c) ((client_of v).fee k.height h) o = λ low. above (subst (λ (x : Option Cost). IsSomeAnd x (λ d. CostsAtMost d (after_update c ((client_of v).fee k.height h)))) is low) in
        (subst (λ (x : Option Cost). LeadsLower x ((client_of v).fee k.height h) o) (sym from) lower, accepted)
