-- What a binary search by a number says of elements whose numbers rise.
use Rattle.std.proofs.Common.{◌≡◌, ℕ, ◌<◌, ◌≤◌, ◌⊎◌, List, length, get_or, map, Option, Some, None, Result, Ok, Err, All, false, inl, inr, sym, ap, ◌∙◌, refl, arith, nat_cmp, Less, lit≤}
use Rattle.std.specs.Prelude.{Contains, IfSome, MatchResult, slice_get}
use Rattle.std.specs.List.{HoldsAt}
use Rattle.std.specs.List.Sorted.{IsStrictlyIncreasing, IsBinarySearchResult, IsNonDecreasingBy, IsSearchInRange}
use Rattle.std.specs.Ordering.{is_gt, ordering_index}
use Rattle.std.specs.Borrow.{Bor}
use Rattle.std.specs.Option.{option_copied}
use Rattle.std.specs.Result.{result_ok}
use Rattle.std.specs.Slice.{IsItemAt}
use Rattle.std.specs.declared.cmp.Ordering.{Ordering}
use Rattle.std.specs.declared.cmp.Ordering.TheVariants.{Equal, Greater}
use Rattle.std.proofs.lemmas.Bool.{cases_lt}
use Rattle.std.proofs.lemmas.Bool.Decides.{nat_tests}
use Rattle.std.proofs.lemmas.Grind.{common_steps}
use Rattle.std.proofs.lemmas.List.{get_or-map, length-map}
use Rattle.std.proofs.lemmas.List.Kept.{AllPairs-from_increasing}
use Rattle.std.proofs.lemmas.Map.Keys.{le_from_not_gt}
use Rattle.std.proofs.lemmas.Map.Lookups.{exact_unsigned}
use Rattle.std.proofs.lemmas.Option.{none-some, same_Some, slice_get-get_or, slice_get_past}

less_cmp : (a n : ℕ) → a < n → nat_cmp a n ≡ Less
less_cmp a n less = grind (arith, nat_tests, common_steps)

more_cmp : (a n : ℕ) → nat_cmp a n ≡ Greater → n < a
more_cmp a n e = grind (arith, nat_tests, common_steps)

under_cmp : (a n : ℕ) → nat_cmp a n ≡ Less → a < n
under_cmp a n e = grind (arith, nat_tests, common_steps)

index_le : (a b : Ordering) → (is_gt b ≡ false → a ≡ Less) → ordering_index a ≤ ordering_index b
index_le a Less h = let e = ap ordering_index (h refl) in omega (arith, e)
index_le a Equal h = let e = ap ordering_index (h refl) in omega (arith, e)
index_le Less Greater h = lit≤ tt
index_le Equal Greater h = lit≤ tt
index_le Greater Greater h = lit≤ tt

lower : (a b n : ℕ) → a < b → is_gt (nat_cmp b n) ≡ false → nat_cmp a n ≡ Less
lower a b n up g = let le = le_from_not_gt b n g in less_cmp a n (omega (arith, up, le))

-- a copy of what a look-up lends
pub copied_at : {X : Type 0} (xs : List X) (i : ℕ) (r : Option (Bor X)) → IsItemAt xs i r → option_copied r ≡ slice_get xs i
copied_at xs i (Some x) found = ap Some found.1 ∙ sym (slice_get-get_or xs i x.now found.3.0)
copied_at xs i None found = sym (slice_get_past xs i found.3)

-- what is at the place that a search found, if it found one
pub at_some : {X : Type 0} (xs : List X) (r : Result ℕ ℕ) (o : Option X) (i : ℕ) → result_ok r ≡ Some i → o ≡ slice_get xs i → MatchResult r (λ j. o ≡ slice_get xs j) (λ j. o ≡ None)
at_some xs (Ok j) o i e is = is ∙ ap (slice_get xs) (sym (same_Some j i e))
at_some xs (Err j) o i e is = absurd (none-some i e)

pub at_none : {X : Type 0} (xs : List X) (r : Result ℕ ℕ) (o : Option X) → result_ok r ≡ None → o ≡ None → MatchResult r (λ j. o ≡ slice_get xs j) (λ j. o ≡ None)
at_none xs (Ok j) o e is = absurd (none-some j (sym e))
at_none xs (Err j) o e is = is

module _ {X : Type 0} (number : X → ℕ) (n : ℕ) where
  -- the numbers of two elements
  rise : (xs : List X) → IsStrictlyIncreasing (map number xs) → (i j : ℕ) (d : X) → i < j → j < length xs → number (get_or xs i d) < number (get_or xs j d)
  rise xs rises i j d below small =
      let long : length (map number xs) ≡ length xs = length-map xs number in
      let up : get_or (map number xs) i 0 < get_or (map number xs) j 0 = AllPairs-from_increasing (map number xs) rises i j 0 below (omega (arith, long, small)) in
      let first : get_or (map number xs) i 0 ≡ number (get_or xs i d) = get_or-map number xs i d 0 (omega (arith, below, small)) in
      let second : get_or (map number xs) j 0 ≡ number (get_or xs j d) = get_or-map number xs j d 0 small in
      omega (arith, up, first, second)

  non_decreasing : (xs : List X) → IsStrictlyIncreasing (map number xs) → IsNonDecreasingBy (λ y. ordering_index (nat_cmp (number y) n)) xs
  non_decreasing xs rises i j d le small =
      elim (cases_lt i j) [
        | inl less ↦ index_le _ _ (lower _ _ n (rise xs rises i j d less small))
        | inr more ↦ (let e : i ≡ j = omega (arith, le, more) in let same = ap (λ (k : ℕ). ordering_index (nat_cmp (number (get_or xs k d)) n)) e in omega (arith, same))
      ]

  -- an element of the number is the one that was found
  found : (xs : List X) (i : ℕ) → IsStrictlyIncreasing (map number xs) → i < length xs → HoldsAt (λ y. nat_cmp (number y) n ≡ Equal) xs i → All (λ y. number y ≡ n → slice_get xs i ≡ Some y) xs
  found xs i rises within is k d small same = at (cases_lt k i) (cases_lt i k)
    where
      here : number (get_or xs i d) ≡ n
      here = exact_unsigned _ _ (is d)

      at : (k < i) ⊎ (i ≤ k) → (i < k) ⊎ (k ≤ i) → slice_get xs i ≡ Some (get_or xs k d)
      at (inl before) other = let up = rise xs rises k i d before within in absurd (omega (arith, up, same, here))
      at (inr behind) (inl after) = let up = rise xs rises i k d after small in absurd (omega (arith, up, same, here))
      at (inr behind) (inr before) =
          let e : i ≡ k = omega (arith, behind, before) in
          slice_get-get_or xs i d within ∙ ap (λ (j : ℕ). Some (get_or xs j d)) e

  -- where none was found, none has the number
  absent : (xs : List X) (i : ℕ) (o : Option X) → IsStrictlyIncreasing (map number xs) → IsBinarySearchResult (λ y. nat_cmp (number y) n) xs (Err i) → All (λ y. number y ≡ n → o ≡ Some y) xs
  absent xs i o rises point k d small same = absurd (apart (cases_lt k i))
    where
      apart : (k < i) ⊎ (i ≤ k) → ⊥
      apart (inl before) = let low = under_cmp (number (get_or xs k d)) n ((point (non_decreasing xs rises)).0 k d (omega arith) before) in omega (arith, low, same)
      apart (inr behind) = let high = more_cmp (number (get_or xs k d)) n ((point (non_decreasing xs rises)).1 k d behind small) in omega (arith, high, same)

  -- what is at the place that was found is the only element of the number; there is none, where no place was found
  pub only : (xs : List X) (r : Result ℕ ℕ) (o : Option X) → IsStrictlyIncreasing (map number xs) → IsSearchInRange r (length xs) → IsBinarySearchResult (λ y. nat_cmp (number y) n) xs r
      → MatchResult r (λ i. o ≡ slice_get xs i) (λ i. o ≡ None) → All (λ y. number y ≡ n → o ≡ Some y) xs
  only xs (Ok i) o rises within is at = λ k d small same. at ∙ found xs i rises within is k d small same
  only xs (Err i) o rises within is at = absent xs i o rises is

  -- and it is one of them, of that number
  pub among : (xs : List X) (r : Result ℕ ℕ) (o : Option X) → IsSearchInRange r (length xs) → IsBinarySearchResult (λ y. nat_cmp (number y) n) xs r
      → MatchResult r (λ i. o ≡ slice_get xs i) (λ i. o ≡ None) → IfSome o (λ c. Contains xs c × (number c ≡ n))
  among xs r None within is at = tt
  among xs (Ok i) (Some c) within is at =
      let place : Some c ≡ slice_get xs i = at in
      let same : c ≡ get_or xs i c = same_Some c (get_or xs i c) (place ∙ slice_get-get_or xs i c within) in
      ((i, within, sym same), ap number same ∙ exact_unsigned _ _ (is c))
  among xs (Err i) (Some c) within is at = absurd (none-some c (sym at))
