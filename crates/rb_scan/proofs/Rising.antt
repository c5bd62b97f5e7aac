-- lists whose numbers rise strictly
use Rattle.std.proofs.Common.{ℕ, ◌+◌, ◌<◌, ◌≤◌, ◌≡◌, true, false, ltb, leb, Bool, List, [], ◌∷◌, length, map, find, sym, ap, ◌∙◌, refl, true≢false, arith}
use Rattle.std.specs.List.{slice_get, IsAllAdjacentAnswer}
use Rattle.std.specs.Prelude.{◌↔◌, IsTrue}
use Rattle.std.specs.List.Sorted.{IsStrictlyIncreasing, IsNonDecreasingBy, IsPartitionPoint}
use Rattle.std.proofs.lemmas.List.{get_or-map, length-map}
use Rattle.std.proofs.lemmas.List.Sorted.{IsNonDecreasingBy-from_all_adjacent}
use Rattle.std.proofs.lemmas.List.Sums.{position_or_len_is}
use Rattle.std.proofs.lemmas.List.Folds.{find_at}
use Rattle.std.proofs.lemmas.Bool.Decides.{nat_tests}

module _ {X : Type 0} (n : X → ℕ) where
  pub non_decreasing_from_rising : (xs : List X) → IsStrictlyIncreasing (map n xs) → IsNonDecreasingBy n xs
  non_decreasing_from_rising xs h = IsNonDecreasingBy-from_all_adjacent n xs (λ k d less.
      let here = get_or-map n xs k d 0 (omega arith) in
      let next = get_or-map n xs (k + 1) d 0 less in
      omega (arith, h k (omega (arith, length-map xs n))))

  -- the first element that is at least a bound stands where those below it end
  pub find-at_partition_point : (xs : List X) (d : X) (bound i : ℕ) → i ≤ length xs
      → IsPartitionPoint (λ x. ltb (n x) bound ≡ true) (λ x. ltb (n x) bound ≡ false) xs i → find (λ x. leb bound (n x)) xs ≡ slice_get xs i
  find-at_partition_point xs d bound i within h =
      find_at _ xs
      ∙ ap (slice_get xs) (position_or_len_is (λ x. leb bound (n x)) xs i d within (λ k less. grind (arith, nat_tests, h.0 k d (omega arith) less)) (λ less. grind (arith, nat_tests, h.1 i d (omega arith) less)))

  -- whether each neighbour is above the one before it
  pub rises-from_neighbours : (xs : List X) (r : Bool) → IsAllAdjacentAnswer (λ x y b. b ≡ ltb (n x) (n y)) xs r → IsTrue r ↔ IsStrictlyIncreasing (map n xs)
  rises-from_neighbours [] true h = (λ _ k less. absurd (omega arith), λ _. refl)
  rises-from_neighbours (x ∷ xs) true h = (
    λ _ k less.
        let within : k + 1 < length (x ∷ xs) = omega (arith, length-map (x ∷ xs) n) in
        let here = get_or-map n (x ∷ xs) k x 0 (omega arith) in
        let next = get_or-map n (x ∷ xs) (k + 1) x 0 within in
        grind (arith, nat_tests, h k x within),
    λ _. refl,
  )
  rises-from_neighbours [] false h = absurd (omega (arith, h.1))
  rises-from_neighbours (x ∷ xs) false h = (
    λ t. absurd (true≢false (sym t)),
    λ rising.
        let k = h.0 in
        let within : k + 1 < length (x ∷ xs) = h.1 in
        let here = get_or-map n (x ∷ xs) k x 0 (omega arith) in
        let next = get_or-map n (x ∷ xs) (k + 1) x 0 within in
        let above = rising k (omega (arith, length-map (x ∷ xs) n)) in
        grind (arith, nat_tests, h.2 x),
  )
