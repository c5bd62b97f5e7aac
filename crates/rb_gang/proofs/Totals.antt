-- Sums over a list in which one element changes, and over numbers.
use Rattle.std.proofs.Common.{◌≡◌, ◌≢◌, ◌⊎◌, ℕ, zero, suc, ◌+◌, ◌-◌, ◌<◌, ◌≤◌, Bool, true, false, cond, not, nat_lt, ◌==◌, List, [], ◌∷◌, ◌++◌, length, get_or, set, refl, sym, ap, ◌∙◌, subst, ⊎_elim, zero-le, le_refl, arith}
use Rattle.std.specs.Prelude.{sum_by, count_by}
use Rattle.std.proofs.lemmas.List.Sums.{sum_by-set, sum_by-append, sum_by-cons}
use Rattle.std.proofs.lemmas.Bool.Decides.{nat_tests}
use mathlib.Core.Option.{some, some-injective, some-ne-none}
use lib.ListN.{get_elem?}
use Rattle.atomic_table.proofs.Lists.{at_set}
use Rattle.rb_gang.specs.Numbers.{times, once_below, not_below}

module _ {X : Type 0} where
  at_length : (xs : List X) (i : ℕ) (v : X) → get_elem? xs i ≡ some v → i < length xs
  at_length [] i v e = absurd (some-ne-none v (sym e))
  at_length (x ∷ xs) zero v e = omega arith
  at_length (x ∷ xs) (suc i) v e = let h = at_length xs i v e in omega arith

  at_value : (xs : List X) (i : ℕ) (v : X) → get_elem? xs i ≡ some v → get_or xs i v ≡ v
  at_value [] i v e = refl
  at_value (x ∷ xs) zero v e = some-injective x v e
  at_value (x ∷ xs) (suc i) v e = at_value xs i v e

  module _ (f : X → ℕ) where
    pub sum_at : (xs : List X) (i : ℕ) (v w : X) → get_elem? xs i ≡ some v → sum_by f (set xs i w) + f v ≡ sum_by f xs + f w
    sum_at xs i v w e = subst (λ (u : X). sum_by f (set xs i w) + f u ≡ sum_by f xs + f w) (at_value xs i v e) (sum_by-set f xs i w v (at_length xs i v e))

    pub sum_term : (xs : List X) (i : ℕ) (v : X) → get_elem? xs i ≡ some v → f v ≤ sum_by f xs
    sum_term [] i v e = absurd (some-ne-none v (sym e))
    sum_term (x ∷ xs) zero v e = let c = sum_by-cons f x xs in let s : f x ≡ f v = ap f (some-injective x v e) in omega arith
    sum_term (x ∷ xs) (suc i) v e = let c = sum_by-cons f x xs in let h = sum_term xs i v e in omega arith

    pub sum_le : (g : X → ℕ) (xs : List X) → ((i : ℕ) (v : X) → get_elem? xs i ≡ some v → f v ≤ g v) → sum_by f xs ≤ sum_by g xs
    sum_le g [] h = le_refl 0
    sum_le g (x ∷ xs) h = let c = sum_by-cons f x xs in let d = sum_by-cons g x xs in let a = h zero x refl in let b = sum_le g xs (λ i v e. h (suc i) v e) in omega arith

    -- where g adds up to 0, and f is 0 wherever g is, f adds up to 0
    pub sum_none : (g : X → ℕ) (xs : List X) → sum_by g xs ≡ 0 → ((i : ℕ) (v : X) → get_elem? xs i ≡ some v → g v ≡ 0 → f v ≡ 0) → sum_by f xs ≡ 0
    sum_none g [] z h = refl
    sum_none g (x ∷ xs) z h = let c = sum_by-cons f x xs in let d = sum_by-cons g x xs in let y : g x ≡ 0 = omega arith in let r : sum_by g xs ≡ 0 = omega arith in
        let a = h zero x refl y in let b = sum_none g xs r (λ i v e. h (suc i) v e) in omega arith

pub times_push : (x : ℕ) (xs : List ℕ) (n : ℕ) → times x (xs ++ n ∷ []) ≡ times x xs + cond (n == x) 1 0
times_push x xs n = let s = sum_by-append (λ y. cond (y == x) 1 0) xs (n ∷ []) in omega arith

pub times_append : (x : ℕ) (xs ys : List ℕ) → times x (xs ++ ys) ≡ times x xs + times x ys
times_append x xs ys = sum_by-append (λ y. cond (y == x) 1 0) xs ys

pub not_below_push : (r : ℕ) (xs : List ℕ) (n : ℕ) → not_below r (xs ++ n ∷ []) ≡ not_below r xs + cond (not (nat_lt n r)) 1 0
not_below_push r xs n = let s = sum_by-append (λ y. cond (not (nat_lt y r)) 1 0) xs (n ∷ []) in omega arith

pub not_below_append : (r : ℕ) (xs ys : List ℕ) → not_below r (xs ++ ys) ≡ not_below r xs + not_below r ys
not_below_append r xs ys = sum_by-append (λ y. cond (not (nat_lt y r)) 1 0) xs ys

pub once_more : (x n : ℕ) → once_below x (n + 1) ≡ once_below x n + cond (n == x) 1 0
once_more x n = grind (arith, nat_tests)

pub beyond_more : (n r : ℕ) → (n + 1) - r ≡ (n - r) + cond (not (nat_lt n r)) 1 0
beyond_more n r = grind (arith, nat_tests)

pub once_most : (x n : ℕ) → 0 < once_below x n → x < n
once_most x n h = grind (arith, nat_tests)

pub not_below_most : (n r : ℕ) → cond (not (nat_lt n r)) 1 0 ≤ 1
not_below_most n r = grind (arith, nat_tests)
