-- The exact labelling exists: each known height in turn can be raised.
use Rattle.std.proofs.Common.{◌≡◌, ℕ, ◌+◌, ◌<◌, ◌≤◌, ◌⊎◌, List, [], ◌∷◌, ◌++◌, length, map, get_or, inl, inr, ap, sym, ◌∙◌, refl, subst, arith, Option, Some, None, zero, suc}
use Rattle.std.specs.List.{Contains}
use Rattle.std.proofs.lemmas.Bool.{cases_eq}
use Rattle.std.proofs.lemmas.List.{append_assoc, append-nil, get_or-map, get_or_default, length-map}
use Rattle.std.proofs.lemmas.Option.{none-some}
use Rattle.rb_step.specs.LightClient.{Client, IsOrderly, IsSource}
use Rattle.rb_plan_types.specs.declared.cost.Cost.{Cost}
use Rattle.rb_plan_types.specs.declared.labelling.Label.{Label}
use Rattle.rb_plan_types.specs.Order.{CostsAtMost, IsCheaper, no_cost, after_update}
use Rattle.rb_plan_types.specs.Labelling.{Labels, IsLabelling, IsExact, LeadsTo, label_of}
use Rattle.rb_plan_types.specs.Lookups.{AreAllKnown}
use Rattle.rb_plan_types.specs.Raised.{IsCheaperOf, IsRaised}
use Rattle.rb_plan_types.proofs.Costs.{CostsAtMost-refl, at_most_or_cheaper}
use Rattle.rb_plan_types.proofs.Routes.{Contains-cons_cases, Contains-cons_first, Contains-cons_rest}
use Rattle.rb_plan_types.proofs.Lookups.{label_of-some}
use Rattle.rb_plan_types.proofs.Cheapest.{IsCheapestOf, cheapest_none, cheapest_skip, cheapest_more, cheapest_all, raised_source, raised_step}
use Rattle.rb_plan_types.proofs.Raise.{AreLabelsSoFar, labels_none, labels_next, labels_labelling, labels_exact, with_label}

-- it can be told which heights are live and which steps are accepted
pub record IsDecided (client : Client) : Type 0 where
  pub live : (h : ℕ) → client.IsLive h ⊎ (client.IsLive h → ⊥)
  pub accepts : (t h : ℕ) → client.Accepts t h ⊎ (client.Accepts t h → ⊥)

contains_or_not : (xs : List ℕ) (x : ℕ) → Contains xs x ⊎ (Contains xs x → ⊥)
contains_or_not [] x = inr (λ c. absurd (let l : c.0 < 0 = c.1 in omega arith))
contains_or_not (y ∷ xs) x = go (cases_eq y x) (contains_or_not xs x)
  where
    go : (y ≡ x) ⊎ (y ≡ x → ⊥) → Contains xs x ⊎ (Contains xs x → ⊥) → Contains (y ∷ xs) x ⊎ (Contains (y ∷ xs) x → ⊥)
    go (inl e) r = inl (Contains-cons_first y xs x e)
    go (inr n) (inl c) = inl (Contains-cons_rest y xs x c)
    go (inr n) (inr m) = inr (λ c. none (Contains-cons_cases y xs x c))
      where
        none : (y ≡ x) ⊎ Contains xs x → ⊥
        none (inl e) = n e
        none (inr c) = m c

-- the cheaper of the two
cheaper_of : (best : Option Cost) (cost : Cost) → (new : Cost) × IsCheaperOf best cost new
cheaper_of None cost = (cost, (CostsAtMost-refl cost, tt, inl refl))
cheaper_of (Some b) cost = go (at_most_or_cheaper b cost)
  where
    weaker : IsCheaper cost b → CostsAtMost cost b
    weaker p = grind arith

    go : CostsAtMost b cost ⊎ IsCheaper cost b → (new : Cost) × IsCheaperOf (Some b) cost new
    go (inl p) = (b, (p, CostsAtMost-refl b, inr refl))
    go (inr p) = (cost, (CostsAtMost-refl cost, weaker p, inl refl))

module _ (client : Client) (decided : IsDecided client) (label : Labels) (h : ℕ) where
  -- one trusted height more
  cheapest_next : (trusted : List ℕ) (best : Option Cost) (t : ℕ) → IsCheapestOf client label h trusted best → (new : Option Cost) × IsCheapestOf client label h (trusted ++ t ∷ []) new
  cheapest_next trusted best t so_far = look (label t) refl (decided.accepts t h)
    where
      look : (o : Option Cost) → label t ≡ o → client.Accepts t h ⊎ (client.Accepts t h → ⊥) → (new : Option Cost) × IsCheapestOf client label h (trusted ++ t ∷ []) new
      look None is a = (best, cheapest_skip client label h trusted best t (λ c leads. none-some leads.0 (sym is ∙ leads.1)) so_far)
      look (Some c) is (inr not) = (best, cheapest_skip client label h trusted best t (λ c leads. not leads.2) so_far)
      look (Some c) is (inl accepted) = pick (cheaper_of best (after_update c (client.fee t h)))
        where
          pick : (new : Cost) × IsCheaperOf best (after_update c (client.fee t h)) new → (new : Option Cost) × IsCheapestOf client label h (trusted ++ t ∷ []) new
          pick (new, cheaper) = (Some new, cheapest_more client label h trusted best t (after_update c (client.fee t h)) new (c, is, accepted, refl) cheaper so_far)

  cheapest_of : (rest done : List ℕ) (best : Option Cost) → IsCheapestOf client label h done best → (new : Option Cost) × IsCheapestOf client label h (done ++ rest) new
  cheapest_of [] done best so_far = (best, subst (λ (ts : List ℕ). IsCheapestOf client label h ts best) (sym (append-nil done)) so_far)
  cheapest_of (t ∷ rest) done best so_far = go (cheapest_next done best t so_far) (cheapest_of rest (done ++ t ∷ []))
    where
      go : (new : Option Cost) × IsCheapestOf client label h (done ++ t ∷ []) new
          → ((b : Option Cost) → IsCheapestOf client label h (done ++ t ∷ []) b → (new : Option Cost) × IsCheapestOf client label h ((done ++ t ∷ []) ++ rest) new)
          → (new : Option Cost) × IsCheapestOf client label h (done ++ t ∷ rest) new
      go (b, p) more = (let (new, q) = more b p in (new, subst (λ (ts : List ℕ). IsCheapestOf client label h ts new) (append_assoc done (t ∷ []) rest) q))

module _ (client : Client) (decided : IsDecided client) (labels : List Label) (h : ℕ) where
  labelled : (t : ℕ) (c : Cost) → LeadsTo client (label_of labels) t h c → Contains (map (λ (l : Label). l.height) labels) t
  labelled t c (d, is, _, _) = go (label_of-some labels t d is)
    where
      go : (l : Label) × Contains labels l × (l.height ≡ t) × (l.cost ≡ d) → Contains (map (λ (l : Label). l.height) labels) t
      go (l, (k, inside, e), eh, _) =
          let n : length (map (λ (l : Label). l.height) labels) ≡ length labels = length-map labels (λ (l : Label). l.height) in
          (k, omega arith, get_or-map (λ (l : Label). l.height) labels k l t inside ∙ ap (λ (x : Label). x.height) e ∙ eh)

  raised_of : (cost : Option Cost) × IsRaised client (label_of labels) h cost
  raised_of = go (contains_or_not client.stored h) (decided.live h)
    where
      steps : (IsSource client h → ⊥) → (cost : Option Cost) × IsRaised client (label_of labels) h cost
      steps not = (let (best, p) = cheapest_of client decided (label_of labels) h (map (λ (l : Label). l.height) labels) [] None (cheapest_none client (label_of labels) h) in
          (best, raised_step client (label_of labels) h best not (cheapest_all client (label_of labels) h (map (λ (l : Label). l.height) labels) best labelled p)))

      go : Contains client.stored h ⊎ (Contains client.stored h → ⊥) → client.IsLive h ⊎ (client.IsLive h → ⊥) → (cost : Option Cost) × IsRaised client (label_of labels) h cost
      go (inl c) (inl l) = (Some no_cost, raised_source client (label_of labels) h (c, l))
      go (inl c) (inr n) = steps (λ source. n source.1)
      go (inr n) l = steps (λ source. n source.0)

module _ (client : Client) (orderly : IsOrderly client) (decided : IsDecided client) (known : List ℕ) (are : AreAllKnown client known) where
  labels_upto : (n : ℕ) → n ≤ length known → (labels : List Label) × AreLabelsSoFar client known n labels
  labels_upto zero l = ([], labels_none client orderly known are)
  labels_upto (suc n) l = go (labels_upto n (omega arith))
    where
      go : (labels : List Label) × AreLabelsSoFar client known n labels → (labels : List Label) × AreLabelsSoFar client known (suc n) labels
      go (labels, so_far) = raise (raised_of client decided labels (get_or known n 0))
        where
          next : n + 1 ≡ suc n
          next = omega arith

          raise : (cost : Option Cost) × IsRaised client (label_of labels) (get_or known n 0) cost → (labels : List Label) × AreLabelsSoFar client known (suc n) labels
          raise (cost, raised) = (
            with_label labels (get_or known n 0) cost,
            subst (λ (k : ℕ). AreLabelsSoFar client known k (with_label labels (get_or known n 0) cost)) next
                (labels_next client orderly known are n (get_or known n 0) labels (omega arith) (get_or_default known n 0 (get_or known n 0) (omega arith)) so_far cost raised),
          )

  pub exact_exists : (labels : List Label) × IsLabelling labels × IsExact client (label_of labels)
  exact_exists = (let (labels, so_far) = labels_upto (length known) (omega arith) in
      (labels, labels_labelling client orderly known are (length known) labels (omega arith) so_far, labels_exact client orderly known are (length known) labels refl so_far))
