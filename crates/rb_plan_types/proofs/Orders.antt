-- The order of lists of updates is total, and no two different lists are equal in it.
use Rattle.std.proofs.Common.{◌≡◌, ℕ, ◌<◌, ◌⊎◌, List, [], ◌∷◌, reverse, inl, inr, ap, sym, ◌∙◌, refl, subst, arith}
use Rattle.std.proofs.lemmas.List.{reverse-reverse}
use Rattle.rb_base.specs.declared.ties.Ties.{Ties}
use Rattle.rb_base.specs.declared.ties.Ties.TheVariants.{Lower, Higher}
use Rattle.rb_step.specs.LightClient.{Update, Client}
use Rattle.rb_plan_types.specs.Order.{IsCheaper, CostsAtMost, ComesFirst, IsEarlier, IsEarlierList, PrecedesList, cost_of}
use Rattle.rb_plan_types.proofs.Costs.{at_most_or_cheaper, cheaper_or_same, IsCheaper-irrefl, IsCheaper-trans}

-- the first is before the second, or they are one, or the second is before the first
abbrev pub AreOrdered : {X : Type 0} → (X → X → Type 0) → X → X → Type 0
AreOrdered IsBefore x y = IsBefore x y ⊎ ((x ≡ y) ⊎ IsBefore y x)

pub comes_cases : (ties : Ties) (m n : ℕ) → AreOrdered (ComesFirst ties) m n
comes_cases Lower m n = grind arith
comes_cases Higher m n = grind arith

pub ComesFirst-irrefl : (ties : Ties) (n : ℕ) → ComesFirst ties n n → ⊥
ComesFirst-irrefl Lower n p = omega arith
ComesFirst-irrefl Higher n p = omega arith

ComesFirst-trans : (ties : Ties) (l m n : ℕ) → ComesFirst ties l m → ComesFirst ties m n → ComesFirst ties l n
ComesFirst-trans Lower l m n p q = omega arith
ComesFirst-trans Higher l m n p q = omega arith

pub same_update : (u v : Update) → u.height ≡ v.height → u.trusted ≡ v.trusted → u ≡ v
same_update u v p q = λ i. record { height = p i; trusted = q i }

module _ (ties : Ties) where
  earlier_cases : (u v : Update) → AreOrdered (IsEarlier ties) u v
  earlier_cases u v = go (comes_cases ties u.height v.height) (comes_cases ties u.trusted v.trusted)
    where
      go : AreOrdered (ComesFirst ties) u.height v.height → AreOrdered (ComesFirst ties) u.trusted v.trusted → AreOrdered (IsEarlier ties) u v
      go (inl p) q = inl (inl p)
      go (inr (inr p)) q = inr (inr (inl p))
      go (inr (inl e)) (inl q) = inl (inr (e, q))
      go (inr (inl e)) (inr (inl f)) = inr (inl (same_update u v e f))
      go (inr (inl e)) (inr (inr q)) = inr (inr (inr (sym e, q)))

  IsEarlier-irrefl : (u : Update) → IsEarlier ties u u → ⊥
  IsEarlier-irrefl u (inl p) = ComesFirst-irrefl ties u.height p
  IsEarlier-irrefl u (inr p) = ComesFirst-irrefl ties u.trusted p.1

  IsEarlier-trans : (u v w : Update) → IsEarlier ties u v → IsEarlier ties v w → IsEarlier ties u w
  IsEarlier-trans u v w (inl p) (inl q) = inl (ComesFirst-trans ties u.height v.height w.height p q)
  IsEarlier-trans u v w (inl p) (inr q) = inl (subst (ComesFirst ties u.height) q.0 p)
  IsEarlier-trans u v w (inr p) (inl q) = inl (subst (λ (x : ℕ). ComesFirst ties x w.height) (sym p.0) q)
  IsEarlier-trans u v w (inr p) (inr q) = inr (p.0 ∙ q.0, ComesFirst-trans ties u.trusted v.trusted w.trusted p.1 q.1)

  earlier_list_cases : (us vs : List Update) → AreOrdered (IsEarlierList ties) us vs
  earlier_list_cases [] [] = inr (inl refl)
  earlier_list_cases [] (v ∷ vs) = inl tt
  earlier_list_cases (u ∷ us) [] = inr (inr tt)
  earlier_list_cases (u ∷ us) (v ∷ vs) = go (earlier_cases u v) (earlier_list_cases us vs)
    where
      go : AreOrdered (IsEarlier ties) u v → AreOrdered (IsEarlierList ties) us vs → AreOrdered (IsEarlierList ties) (u ∷ us) (v ∷ vs)
      go (inl p) q = inl (inl p)
      go (inr (inr p)) q = inr (inr (inl p))
      go (inr (inl e)) (inl p) = inl (inr (e, p))
      go (inr (inl e)) (inr (inl p)) = inr (inl cc)
      go (inr (inl e)) (inr (inr p)) = inr (inr (inr (sym e, p)))

  IsEarlierList-irrefl : (us : List Update) → IsEarlierList ties us us → ⊥
  IsEarlierList-irrefl [] p = p
  IsEarlierList-irrefl (u ∷ us) (inl p) = IsEarlier-irrefl u p
  IsEarlierList-irrefl (u ∷ us) (inr p) = IsEarlierList-irrefl us p.1

  IsEarlierList-trans : (us vs ws : List Update) → IsEarlierList ties us vs → IsEarlierList ties vs ws → IsEarlierList ties us ws
  IsEarlierList-trans us vs [] p q = q
  IsEarlierList-trans us [] (w ∷ ws) p q = absurd p
  IsEarlierList-trans [] (v ∷ vs) (w ∷ ws) p q = tt
  IsEarlierList-trans (u ∷ us) (v ∷ vs) (w ∷ ws) (inl p) (inl q) = inl (IsEarlier-trans u v w p q)
  IsEarlierList-trans (u ∷ us) (v ∷ vs) (w ∷ ws) (inl p) (inr q) = inl (rw (← q.0) p)
  IsEarlierList-trans (u ∷ us) (v ∷ vs) (w ∷ ws) (inr p) (inl q) = inl (rw p.0 q)
  IsEarlierList-trans (u ∷ us) (v ∷ vs) (w ∷ ws) (inr p) (inr q) = inr (p.0 ∙ q.0, IsEarlierList-trans us vs ws p.1 q.1)

module _ (client : Client) where
  pub precedes_cases : (us vs : List Update) → AreOrdered (PrecedesList client) us vs
  precedes_cases us vs = go (at_most_or_cheaper (cost_of client us) (cost_of client vs))
    where
      same : cost_of client us ≡ cost_of client vs → AreOrdered (IsEarlierList client.ties) (reverse us) (reverse vs) → AreOrdered (PrecedesList client) us vs
      same e (inl p) = inl (inr (e, p))
      same e (inr (inl p)) = inr (inl (sym (reverse-reverse us) ∙ ap reverse p ∙ reverse-reverse vs))
      same e (inr (inr p)) = inr (inr (inr (sym e, p)))

      most : IsCheaper (cost_of client us) (cost_of client vs) ⊎ (cost_of client us ≡ cost_of client vs) → AreOrdered (PrecedesList client) us vs
      most (inl p) = inl (inl p)
      most (inr e) = same e (earlier_list_cases client.ties (reverse us) (reverse vs))

      go : CostsAtMost (cost_of client us) (cost_of client vs) ⊎ IsCheaper (cost_of client vs) (cost_of client us) → AreOrdered (PrecedesList client) us vs
      go (inl p) = most (cheaper_or_same _ _ p)
      go (inr p) = inr (inr (inl p))

  pub PrecedesList-irrefl : (us : List Update) → PrecedesList client us us → ⊥
  PrecedesList-irrefl us (inl p) = IsCheaper-irrefl _ p
  PrecedesList-irrefl us (inr p) = IsEarlierList-irrefl client.ties _ p.1

  pub PrecedesList-trans : (us vs ws : List Update) → PrecedesList client us vs → PrecedesList client vs ws → PrecedesList client us ws
  PrecedesList-trans us vs ws (inl p) (inl q) = inl (IsCheaper-trans _ _ _ p q)
  PrecedesList-trans us vs ws (inl p) (inr q) = inl (subst (λ c. IsCheaper (cost_of client us) c) q.0 p)
  PrecedesList-trans us vs ws (inr p) (inl q) = inl (subst (λ c. IsCheaper c (cost_of client ws)) (sym p.0) q)
  PrecedesList-trans us vs ws (inr p) (inr q) = inr (p.0 ∙ q.0, IsEarlierList-trans client.ties _ _ _ p.1 q.1)
