-- One height raised from the labels below it, and all known heights raised in turn: the exact labelling.
use Rattle.std.proofs.Common.{◌≡◌, ℕ, ◌+◌, ◌*◌, ◌<◌, ◌≤◌, ◌^◌, ◌⊎◌, List, [], ◌∷◌, ◌++◌, length, get_or, All, inl, inr, ap, sym, ◌∙◌, refl, subst, arith, Option, Some, None, IsSomeAnd}
use Rattle.std.specs.List.{AllWithin, Contains}
use Rattle.std.proofs.lemmas.List.{get_or_default}
use Rattle.std.proofs.lemmas.List.Elements.{All-nil, All-push, All-weaker, All-contains, Contains-get_or, Contains-push_cases, AllWithin-none, AllWithin-more, at_read}
use Rattle.std.proofs.lemmas.List.Kept.{AllPairs-from_increasing}
use Rattle.std.proofs.lemmas.List.Quantifiers.{all_pairs_push}
use Rattle.std.proofs.lemmas.Bool.{cases_eq}
use Rattle.std.proofs.lemmas.Option.{none-some}
use Rattle.rb_step.specs.LightClient.{Client, IsOrderly, IsSource}
use Rattle.rb_plan_types.specs.declared.cost.Cost.{Cost}
use Rattle.rb_plan_types.specs.declared.labelling.Label.{Label}
use Rattle.rb_plan_types.specs.Order.{CostsAtMost, no_cost, after_update}
use Rattle.rb_plan_types.specs.Labelling.{Labels, IsLabelling, IsLabelledAtMost, IsExact, IsAttained, LeadsTo, label_of}
use Rattle.rb_plan_types.specs.Lookups.{AreAllKnown}
use Rattle.rb_plan_types.specs.Raised.{IsRaised}
use Rattle.rb_plan_types.proofs.Exact.{exact_from_attained}
use Rattle.rb_plan_types.proofs.Lookups.{AreRising, increasing_from_pairs, label_of-some, label_of-none, label_of-push_new, label_of-push_other}

-- the height has the label that it has as a source, and that the steps into it ask for
pub record IsSoundAt (client : Client) (label : Labels) (h : ℕ) : Type 0 where
  pub source : IsSource client h → label h ≡ Some no_cost
  pub steps : (t : ℕ) (c : Cost) → LeadsTo client label t h c → IsLabelledAtMost label h c

-- the label of the height is that of a source, or a step leads to it
abbrev IsAttainedAt : Client → Labels → ℕ → Cost → Type 0
IsAttainedAt client label h c = (IsSource client h × (c ≡ no_cost)) ⊎ ((t : ℕ) × LeadsTo client label t h c)

-- the same step leads there by labels that say the same of the trusted height
leads_by : (client : Client) (label label' : Labels) (t h : ℕ) (c : Cost) → ((d : Cost) → label t ≡ Some d → label' t ≡ Some d) → LeadsTo client label t h c → LeadsTo client label' t h c
leads_by client label label' t h c keeps (d, is, accepted, e) = (d, keeps d is, accepted, e)

-- labels with one height more, which had none
module _ (client : Client) (orderly : IsOrderly client) (label label' : Labels) (new : ℕ) (cost : Option Cost)
    (same : (h : ℕ) → (h ≡ new → ⊥) → label' h ≡ label h) (here : label' new ≡ cost) (fresh : label new ≡ None) (raised : IsRaised client label new cost) where
  keeps : (h : ℕ) (c : Cost) → label h ≡ Some c → label' h ≡ Some c
  keeps h c is = same h (λ (e : h ≡ new). none-some c (sym fresh ∙ ap label (sym e) ∙ is)) ∙ is

  -- a step up to a height that isn't above the new one comes from an old label
  was : (t h : ℕ) (c : Cost) → h ≤ new → LeadsTo client label' t h c → LeadsTo client label t h c
  was t h c under (d, is, accepted, e) = let up : t < h = orderly.rises t h accepted in (d, sym (same t (λ (e : t ≡ new). omega arith)) ∙ is, accepted, e)

  pub attained_more : IsAttained client label → IsAttained client label'
  attained_more attained h c is = go (cases_eq h new)
    where
      more : IsAttainedAt client label h c → IsAttainedAt client label' h c
      more (inl s) = inl s
      more (inr (t, leads)) = inr (t, leads_by client label label' t h c (keeps t) leads)

      go : (h ≡ new) ⊎ (h ≡ new → ⊥) → IsAttainedAt client label' h c
      go (inl e) = more (subst (λ (x : ℕ). IsAttainedAt client label x c) (sym e) (raised.attained c (sym here ∙ ap label' (sym e) ∙ is)))
      go (inr other) = more (attained h c (sym (same h other) ∙ is))

  pub sound_below : (h : ℕ) → h < new → IsSoundAt client label h → IsSoundAt client label' h
  sound_below h under sound = record {
    source = λ s. keeps h no_cost (sound.source s);
    steps = λ t c leads. subst (λ (o : Option Cost). IsSomeAnd o (λ b. CostsAtMost b c)) (sym (same h (λ (e : h ≡ new). omega arith))) (sound.steps t c (was t h c (omega arith) leads));
  }

  pub sound_new : IsSoundAt client label' new
  sound_new = record {
    source = λ s. here ∙ raised.source s;
    steps = λ t c leads. subst (λ (o : Option Cost). IsSomeAnd o (λ b. CostsAtMost b c)) (sym here) (raised.least t c (was t new c (omega arith) leads));
  }

-- numbers of a label after so many heights
abbrev pub IsSmallAfter : ℕ → Label → Type 0
IsSmallAfter n l = (l.cost.count ≤ n) × (l.cost.fee ≤ n * 2 ^ 45)

-- the labels of the first n known heights
pub record AreLabelsSoFar (client : Client) (known : List ℕ) (n : ℕ) (labels : List Label) : Type 0 where
  pub rising : AreRising labels
  pub below : (l : Label) → Contains labels l → (k d : ℕ) → n ≤ k → k < length known → l.height < get_or known k d
  pub small : All (IsSmallAfter n) labels
  pub attained : IsAttained client (label_of labels)
  pub sound : AllWithin (IsSoundAt client (label_of labels)) known 0 n

-- with the label of the height, if it gets one
abbrev pub with_label : List Label → ℕ → Option Cost → List Label
with_label labels h None = labels
with_label labels h (Some c) = labels ++ record { height = h; cost = c } ∷ []

module _ (client : Client) (orderly : IsOrderly client) (known : List ℕ) (are : AreAllKnown client known) where
  pub labels_none : AreLabelsSoFar client known 0 []
  labels_none = record {
    rising = λ i j d lt l. absurd (omega arith);
    below = λ l there k d low l'. absurd (let b : there.0 < 0 = there.1 in omega arith);
    small = All-nil (IsSmallAfter 0);
    attained = λ h c is. absurd (none-some c is);
    sound = AllWithin-none (IsSoundAt client (label_of [])) known 0;
  }

  module _ (n h : ℕ) (labels : List Label) (inside : n < length known) (read : h ≡ get_or known n h) (so_far : AreLabelsSoFar client known n labels) where
    under : (l : Label) → Contains labels l → l.height < h
    under l there = let p : l.height < get_or known n h = so_far.below l there n h (omega arith) inside in omega (arith, sym read)

    fresh : label_of labels h ≡ None
    fresh = label_of-none labels h (λ l there e. let p : l.height < h = under l there in omega arith)

    earlier : (k d : ℕ) → k < n → get_or known k d < h
    earlier k d lt =
        let p : get_or known k d < get_or known n d = AllPairs-from_increasing known are.rising k n d lt inside in
        let same : get_or known n d ≡ h = get_or_default known n d h inside ∙ sym read in
        omega arith

    later : (k d : ℕ) → n + 1 ≤ k → k < length known → h < get_or known k d
    later k d up l =
        let p : get_or known n d < get_or known k d = AllPairs-from_increasing known are.rising n k d (omega arith) l in
        let same : get_or known n d ≡ h = get_or_default known n d h inside ∙ sym read in
        omega arith

    wider : (l : Label) → IsSmallAfter n l → IsSmallAfter (n + 1) l
    wider l p = omega arith

    -- the next labels, from labels that say the same of all other heights
    module _ (label' : Labels) (cost : Option Cost) (same : (k : ℕ) → (k ≡ h → ⊥) → label' k ≡ label_of labels k) (here : label' h ≡ cost) (raised : IsRaised client (label_of labels) h cost) where
      sound_next : AllWithin (IsSoundAt client label') known 0 (n + 1)
      sound_next = AllWithin-more (IsSoundAt client label') known 0 n
          (λ k d low high. sound_below client orderly (label_of labels) label' h cost same here fresh raised (get_or known k d) (earlier k d high) (so_far.sound k d low high))
          (at_read known (IsSoundAt client label') n h inside read (sound_new client orderly (label_of labels) label' h cost same here fresh raised))

      attained_next : IsAttained client label'
      attained_next = attained_more client orderly (label_of labels) label' h cost same here fresh raised so_far.attained

    labels_skip : IsRaised client (label_of labels) h None → AreLabelsSoFar client known (n + 1) labels
    labels_skip raised = record {
      rising = so_far.rising;
      below = λ l there k d low l'. so_far.below l there k d (omega arith) l';
      small = All-weaker (IsSmallAfter n) (IsSmallAfter (n + 1)) wider labels so_far.small;
      attained = so_far.attained;
      sound = sound_next (label_of labels) None (λ k _. refl) fresh raised;
    }

    labels_more : (b : Cost) → IsRaised client (label_of labels) h (Some b) → AreLabelsSoFar client known (n + 1) (with_label labels h (Some b))
    labels_more b raised = record {
      rising = all_pairs_push (λ x y. x.height < y.height) labels new so_far.rising (λ k d l. under (get_or labels k d) (Contains-get_or labels k d l));
      below = below;
      small = All-push (IsSmallAfter (n + 1)) labels new (All-weaker (IsSmallAfter n) (IsSmallAfter (n + 1)) wider labels so_far.small) (new_small (raised.attained b refl));
      attained = attained_next (label_of (labels ++ new ∷ [])) (Some b) other added raised;
      sound = sound_next (label_of (labels ++ new ∷ [])) (Some b) other added raised;
    }
      where
        new : Label
        new = record { height = h; cost = b }

        other : (k : ℕ) → (k ≡ h → ⊥) → label_of (labels ++ new ∷ []) k ≡ label_of labels k
        other k p = label_of-push_other labels new k p

        added : label_of (labels ++ new ∷ []) h ≡ Some b
        added = label_of-push_new labels new (λ l there e. let p : l.height < h = under l there in omega arith)

        below : (l : Label) → Contains (labels ++ new ∷ []) l → (k d : ℕ) → n + 1 ≤ k → k < length known → l.height < get_or known k d
        below l there k d low l' = go (Contains-push_cases labels new l there)
          where
            go : Contains labels l ⊎ (new ≡ l) → l.height < get_or known k d
            go (inl old) = so_far.below l old k d (omega arith) l'
            go (inr e) = let p : h < get_or known k d = later k d low l' in let same : h ≡ l.height = ap (λ (x : Label). x.height) e in omega arith

        new_small : IsAttainedAt client (label_of labels) h b → (b.count ≤ n + 1) × (b.fee ≤ (n + 1) * 2 ^ 45)
        new_small (inl (source, e)) =
            let m : b.count ≡ 0 = ap (λ (x : Cost). x.count) e in
            let f : b.fee ≡ 0 = ap (λ (x : Cost). x.fee) e in
            omega arith
        new_small (inr (t, (c, is, accepted, e))) = go (label_of-some labels t c is)
          where
            go : (l : Label) × Contains labels l × (l.height ≡ t) × (l.cost ≡ c) → (b.count ≤ n + 1) × (b.fee ≤ (n + 1) * 2 ^ 45)
            go (l, there, eh, ec) =
                let p : IsSmallAfter n l = All-contains (IsSmallAfter n) labels l so_far.small there in
                let nc : l.cost.count ≡ c.count = ap (λ (x : Cost). x.count) ec in
                let fc : l.cost.fee ≡ c.fee = ap (λ (x : Cost). x.fee) ec in
                let m : b.count ≡ c.count + 1 = ap (λ (x : Cost). x.count) e in
                let f : b.fee ≡ c.fee + client.fee t h = ap (λ (x : Cost). x.fee) e in
                let s : client.fee t h < 2 ^ 45 = orderly.small t h in
                omega (arith, p, nc, fc, m, f, s)

    -- the next height's label
    pub labels_next : (cost : Option Cost) → IsRaised client (label_of labels) h cost → AreLabelsSoFar client known (n + 1) (with_label labels h cost)
    labels_next None raised = labels_skip raised
    labels_next (Some b) raised = labels_more b raised

  -- a labelling all the way, and the exact one at the end
  pub labels_labelling : (n : ℕ) (labels : List Label) → n ≤ length known → AreLabelsSoFar client known n labels → IsLabelling labels
  labels_labelling n labels inside so_far = record {
    rising = increasing_from_pairs (λ (l : Label). l.height) labels so_far.rising;
    small = All-weaker (IsSmallAfter n) (λ l. (l.cost.fee < 2 ^ 63) × (l.cost.count < 2 ^ 63)) (λ l p. small l p are.few) labels so_far.small;
  }
    where
      small : (l : Label) → IsSmallAfter n l → length known ≤ 2 ^ 12 → (l.cost.fee < 2 ^ 63) × (l.cost.count < 2 ^ 63)
      small l p few = omega arith

  pub labels_exact : (n : ℕ) (labels : List Label) → n ≡ length known → AreLabelsSoFar client known n labels → IsExact client (label_of labels)
  labels_exact n labels all so_far = exact_from_attained client orderly (label_of labels) (record { sources = sources; steps = steps }) so_far.attained
    where
      at : (h : ℕ) → Contains known h → IsSoundAt client (label_of labels) h
      at h (k, l, e) = subst (IsSoundAt client (label_of labels)) e (so_far.sound k h (omega arith) (omega arith))

      sources : (h : ℕ) → IsSource client h → label_of labels h ≡ Some no_cost
      sources h source = (at h (are.stored h source.0)).source source

      steps : (t h : ℕ) (c : Cost) → label_of labels t ≡ Some c → client.Accepts t h → IsLabelledAtMost (label_of labels) h (after_update c (client.fee t h))
      steps t h c is accepted = (at h (are.steps t h accepted)).steps t (after_update c (client.fee t h)) (c, is, accepted, refl)
