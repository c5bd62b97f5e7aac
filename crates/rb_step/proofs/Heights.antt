-- Heights that rise.
use Rattle.std.proofs.Common.{◌≡◌, ◌↔◌, ℕ, ◌<◌, ◌≤◌, Bool, true, false, IsTrue, List, length, get_or, Result, Ok, Err, refl, sym, ◌∙◌, inl, inr, arith, nat_lt}
use Rattle.std.specs.List.{Contains, IsAllAdjacentAnswer}
use Rattle.std.specs.List.Sorted.{IsStrictlyIncreasing, IsBinarySearchResult}
use Rattle.std.specs.Ordering.{nat_cmp}
use Rattle.std.specs.Result.{is_ok, MatchResult}
use Rattle.std.proofs.lemmas.Bool.{ltb-true, ltb-false, false≢true, cases_lt}
use Rattle.std.proofs.lemmas.List.{get_or_default}
use Rattle.std.proofs.lemmas.List.Kept.{AllPairs-from_increasing}
use Rattle.std.proofs.lemmas.List.Sorted.{searched}

-- neighbours rise exactly where all do
pub rising_from_neighbours : (xs : List ℕ) (r : Bool) → IsAllAdjacentAnswer (λ x y b. b ≡ nat_lt x y) xs r → IsTrue r ↔ IsStrictlyIncreasing xs
rising_from_neighbours xs true h = (λ _ k lt. ltb-true _ _ (sym (h k 0 lt)), λ _. refl)
rising_from_neighbours xs false h = (
  λ f. absurd (false≢true f),
  λ up. (let less = up h.0 h.1 in let more = ltb-false _ _ (sym (h.2 0)) in absurd (omega (arith, less, more))),
)

pub not_falling : (xs : List ℕ) → IsStrictlyIncreasing xs → (i j : ℕ) → i ≤ j → j < length xs → get_or xs i 0 ≤ get_or xs j 0
not_falling xs up i j le lt = elim (cases_lt i j) [
  | inl less ↦ (let e = AllPairs-from_increasing xs up i j 0 less lt in omega (arith, e))
  | inr more ↦ (let e : i ≡ j = omega arith in rw e (omega arith))
]

-- a binary search finds what rising numbers contain
pub found_is_contained : (xs : List ℕ) (x : ℕ) (r : Result ℕ ℕ) → IsStrictlyIncreasing xs → IsBinarySearchResult (λ y. nat_cmp y x) xs r → IsTrue (is_ok r) ↔ Contains xs x
found_is_contained xs x r up found = by_result r (searched xs x r found (not_falling xs up))
  where
    by_result : (r : Result ℕ ℕ) → MatchResult r (λ i. (i < length xs) × (get_or xs i 0 ≡ x)) (λ i. (i ≤ length xs) × ((k : ℕ) → k < i → get_or xs k 0 < x) × ((k : ℕ) → i ≤ k → k < length xs → x < get_or xs k 0)) → IsTrue (is_ok r) ↔ Contains xs x
    by_result (Ok i) h = (λ _. (i, h.0, get_or_default xs i x 0 h.0 ∙ h.1), λ _. refl)
    by_result (Err i) h = (
      λ f. absurd (false≢true f),
      λ c. (let at : get_or xs c.0 0 ≡ x = get_or_default xs c.0 0 x c.1 ∙ c.2 in elim (cases_lt c.0 i) [
        | inl below ↦ (let less = h.1 c.0 below in absurd (omega (arith, at, less)))
        | inr above ↦ (let more = h.2 c.0 above c.1 in absurd (omega (arith, at, more)))
      ]),
    )
