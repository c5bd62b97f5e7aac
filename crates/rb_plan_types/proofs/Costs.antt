-- Laws of costs, which are compared fee first.
use Rattle.std.proofs.Common.{◌≡◌, ℕ, ◌+◌, ◌≤◌, ◌⊎◌, List, ◌∷◌, inl, inr, ap, sym, refl, arith, sum_by, length, true, false, eqb, ◌&&◌}
use Rattle.std.proofs.lemmas.Bool.{and_parts, and_cases, eqb-true, eqb-false}
use Rattle.std.proofs.lemmas.List.Sums.{sum_by-cons}
use Rattle.rb_step.specs.LightClient.{Update, Client}
use Rattle.rb_plan_types.specs.declared.cost.Cost.{Cost}
use Rattle.rb_plan_types.specs.Order.{IsCheaper, CostsAtMost, cost_of, after_update}

pub same_cost : (a b : Cost) → a.fee ≡ b.fee → a.count ≡ b.count → a ≡ b
same_cost a b p q = λ i. record { fee = p i; count = q i }

pub CostsAtMost-refl : (a : Cost) → CostsAtMost a a
CostsAtMost-refl a = inr (refl, omega arith)

pub CostsAtMost-trans : (a b c : Cost) → CostsAtMost a b → CostsAtMost b c → CostsAtMost a c
CostsAtMost-trans a b c p q = grind arith

pub CostsAtMost-after : (a b : Cost) (fee : ℕ) → CostsAtMost a b → CostsAtMost (after_update a fee) (after_update b fee)
CostsAtMost-after a b fee p = grind arith

-- the same with more of a fee
pub CostsAtMost-fee : (a : Cost) (less more : ℕ) → less ≤ more → CostsAtMost (after_update a less) (after_update a more)
CostsAtMost-fee a less more p = grind arith

-- the other way round
pub CostsAtMost-before : (a b : Cost) (fee : ℕ) → CostsAtMost (after_update a fee) (after_update b fee) → CostsAtMost a b
CostsAtMost-before a b fee p = grind arith

pub CostsAtMost-more : (a b : Cost) (fee : ℕ) → CostsAtMost a b → CostsAtMost a (after_update b fee)
CostsAtMost-more a b fee p = grind arith

pub CostsAtMost-antisym : (a b : Cost) → CostsAtMost a b → CostsAtMost b a → a ≡ b
CostsAtMost-antisym a b p q = same_cost a b (grind arith) (grind arith)

pub not_cheaper : (a b : Cost) → CostsAtMost a b → IsCheaper b a → ⊥
not_cheaper a b p q = grind arith

pub at_most_or_cheaper : (a b : Cost) → CostsAtMost a b ⊎ IsCheaper b a
at_most_or_cheaper a b = grind arith

pub cheaper_or_same : (a b : Cost) → CostsAtMost a b → IsCheaper a b ⊎ (a ≡ b)
cheaper_or_same a b p = go (at_most_or_cheaper b a)
  where
    go : CostsAtMost b a ⊎ IsCheaper a b → IsCheaper a b ⊎ (a ≡ b)
    go (inl q) = inr (CostsAtMost-antisym a b p q)
    go (inr q) = inl q

-- one update more is never at no higher cost
pub not_free : (a b : Cost) (fee : ℕ) → CostsAtMost a b → a ≡ after_update b fee → ⊥
not_free a b fee p e = let f : a.fee ≡ b.fee + fee = ap (λ (x : Cost). x.fee) e in let n : a.count ≡ b.count + 1 = ap (λ (x : Cost). x.count) e in grind arith

pub IsCheaper-irrefl : (a : Cost) → IsCheaper a a → ⊥
IsCheaper-irrefl a p = grind arith

pub IsCheaper-trans : (a b c : Cost) → IsCheaper a b → IsCheaper b c → IsCheaper a c
IsCheaper-trans a b c p q = grind arith

-- the cost of a list with one update more
pub cost_of-cons : (client : Client) (u : Update) (us : List Update) → cost_of client (u ∷ us) ≡ after_update (cost_of client us) (client.fee u.trusted u.height)
cost_of-cons client u us =
    let step : ℕ = client.fee u.trusted u.height in
    let fees : Update → ℕ = λ u. client.fee u.trusted u.height in
    let f : sum_by fees (u ∷ us) ≡ sum_by fees us + step = omega (arith, sum_by-cons fees u us) in
    let n : length (u ∷ us) ≡ length us + 1 = omega arith in
    same_cost (cost_of client (u ∷ us)) (after_update (cost_of client us) step) f n

-- what `==` tells
pub same_from_eq : (a b : Cost) → true ≡ (eqb a.fee b.fee && eqb a.count b.count) → a ≡ b
same_from_eq a b e =
    let parts : (eqb a.fee b.fee ≡ true) × (eqb a.count b.count ≡ true) = and_parts _ _ (sym e) in
    same_cost a b (eqb-true _ _ parts.0) (eqb-true _ _ parts.1)

pub other_from_eq : (a b : Cost) → false ≡ (eqb a.fee b.fee && eqb a.count b.count) → a ≡ b → ⊥
other_from_eq a b e same = go (and_cases _ _ (sym e))
  where
    go : (eqb a.fee b.fee ≡ false) ⊎ (eqb a.count b.count ≡ false) → ⊥
    go (inl p) = eqb-false _ _ p (ap (λ (x : Cost). x.fee) same)
    go (inr p) = eqb-false _ _ p (ap (λ (x : Cost). x.count) same)
