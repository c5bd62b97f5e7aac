-- Elements that stand by strictly rising numbers.
use Rattle.std.proofs.Common.{◌≡◌, ℕ, ◌+◌, ◌<◌, ◌==◌, List, [], ◌∷◌, length, get_or, map, Result, Ok, Err, inl, inr, sym, ap, ◌∙◌, arith, nat_cmp, Less}
use Rattle.std.specs.Prelude.{is_ok}
use Rattle.std.specs.List.{list_any}
use Rattle.std.specs.List.Sorted.{IsBinarySearchResult, IsSearchInRange, IsSortedBy, IsStrictlyIncreasing, IsStrictlySortedBy}
use Rattle.std.specs.Cmp.{unsigned_ties}
use Rattle.std.specs.Ordering.{is_eq, is_lt}
use Rattle.std.proofs.lemmas.Bool.{cases_lt}
use Rattle.std.proofs.lemmas.Bool.Decides.{nat_tests}
use Rattle.std.proofs.lemmas.Cmp.{nat_cmp_total}
use Rattle.std.proofs.lemmas.List.{get_or-map, length-map}
use Rattle.std.proofs.lemmas.List.Folds.{list_any_at, list_any_none}
use Rattle.std.proofs.lemmas.List.Kept.{AllPairs-from_increasing}
use Rattle.std.proofs.lemmas.List.Sorted.{searchable_from_sorted}
use Rattle.std.proofs.lemmas.Map.Keys.{Less-from_sorted}

less : (a b : ℕ) → nat_cmp a b ≡ Less → a < b
less a b e = grind (arith, nat_tests, e)

module _ {X : Type 0} (number : X → ℕ) where
  pub rise : (xs : List X) → IsStrictlyIncreasing (map number xs) → (i j : ℕ) (d : X) → i < j → j < length xs → number (get_or xs i d) < number (get_or xs j d)
  rise xs up i j d below small =
      let long : length (map number xs) ≡ length xs = length-map xs number in
      let less : get_or (map number xs) i 0 < get_or (map number xs) j 0 = AllPairs-from_increasing (map number xs) up i j 0 below (omega (arith, long, small)) in
      let first : get_or (map number xs) i 0 ≡ number (get_or xs i d) = get_or-map number xs i d 0 (omega (arith, below, small)) in
      let second : get_or (map number xs) j 0 ≡ number (get_or xs j d) = get_or-map number xs j d 0 small in
      omega (arith, less, first, second)

  pub increasing_from : (xs : List X) → ((k : ℕ) (d : X) → k + 1 < length xs → nat_cmp (number (get_or xs k d)) (number (get_or xs (k + 1) d)) ≡ Less) → IsStrictlyIncreasing (map number xs)
  increasing_from [] up = λ k small. absurd (omega (arith, small))
  increasing_from (x ∷ xs) up = λ k small.
      let long : length (map number (x ∷ xs)) ≡ length (x ∷ xs) = length-map (x ∷ xs) number in
      let first : get_or (map number (x ∷ xs)) k 0 ≡ number (get_or (x ∷ xs) k x) = get_or-map number (x ∷ xs) k x 0 (omega (arith, long, small)) in
      let second : get_or (map number (x ∷ xs)) (k + 1) 0 ≡ number (get_or (x ∷ xs) (k + 1) x) = get_or-map number (x ∷ xs) (k + 1) x 0 (omega (arith, long, small)) in
      let up : number (get_or (x ∷ xs) k x) < number (get_or (x ∷ xs) (k + 1) x) = less _ _ (up k x (omega (arith, long, small))) in
      omega (arith, up, first, second)

  pub increasing : (xs : List X) → IsStrictlySortedBy (λ a b. nat_cmp (number a) (number b)) xs → IsStrictlyIncreasing (map number xs)
  increasing xs up = increasing_from xs (λ k d small. Less-from_sorted (λ a b. nat_cmp (number a) (number b)) xs k (k + 1) d up (omega arith) small)

  sorted : (xs : List X) → IsStrictlyIncreasing (map number xs) → IsSortedBy (λ a b. is_lt (nat_cmp (number a) (number b))) xs
  sorted xs up = λ k d low small. let less = rise xs up k (k + 1) d (omega arith) small in grind (arith, nat_tests, less)

  -- a search finds one of a number where there is one
  pub found_by : (xs : List X) (n : ℕ) (r : Result ℕ ℕ) → IsSortedBy (λ a b. is_lt (nat_cmp (number a) (number b))) xs → IsSearchInRange r (length xs)
      → IsBinarySearchResult (λ y. nat_cmp (number y) n) xs r → is_ok r ≡ list_any (λ y. number y == n) xs
  found_by [] n (Ok i) up small at = absurd (omega (arith, small))
  found_by (x ∷ xs) n (Ok i) up small at =
      sym (list_any_at (λ y. number y == n) (x ∷ xs) i x small (unsigned_ties (number (get_or (x ∷ xs) i x)) n ∙ ap is_eq (at x)))
  found_by xs n (Err i) up small at =
      let parts = at (searchable_from_sorted nat_cmp_total number xs n up) in
      sym
      (list_any_none (λ y. number y == n) xs (λ k d within.
      elim (cases_lt k i) [
        | inl before ↦ unsigned_ties (number (get_or xs k d)) n ∙ ap is_eq (parts.0 k d (omega arith) before)
        | inr behind ↦ unsigned_ties (number (get_or xs k d)) n ∙ ap is_eq (parts.1 k d behind within)
      ]))

  pub is_found : (xs : List X) (n : ℕ) (r : Result ℕ ℕ) → IsStrictlyIncreasing (map number xs) → IsSearchInRange r (length xs) → IsBinarySearchResult (λ y. nat_cmp (number y) n) xs r
      → is_ok r ≡ list_any (λ y. number y == n) xs
  is_found xs n r up small at = found_by xs n r (sorted xs up) small at
