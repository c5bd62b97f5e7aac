-- What a search among rising places says.
use Rattle.std.proofs.Common.{◌≡◌, ◌↔◌, ℕ, ◌<◌, ◌≤◌, ◌⊎◌, List, length, get_or, Result, Ok, Err, true, inl, inr, refl, sym, ap, ◌∙◌, arith, Contains}
use Rattle.std.specs.Prelude.{is_ok}
use Rattle.std.specs.List.Sorted.{IsStrictlyIncreasing, IsBinarySearchResult}
use Rattle.std.specs.Ordering.{nat_cmp}
use Rattle.std.proofs.lemmas.Bool.{cases_lt, true≢false}
use Rattle.std.proofs.lemmas.List.{get_or_default}
use Rattle.std.proofs.lemmas.List.Kept.{AllPairs-from_increasing}
use Rattle.std.proofs.lemmas.List.Sorted.{searched}

not_falling : (xs : List ℕ) → IsStrictlyIncreasing xs → (i j : ℕ) → i ≤ j → j < length xs → get_or xs i 0 ≤ get_or xs j 0
not_falling xs rises i j le small =
    elim (cases_lt i j) [
      | inl less ↦ (let up = AllPairs-from_increasing xs rises i j 0 less small in omega (arith, up))
      | inr more ↦ (let same : i ≡ j = omega (arith, le, more) in let e = ap (λ k. get_or xs k 0) same in omega (arith, e))
    ]

-- it is found where it is one of them
pub is_found : (xs : List ℕ) (x : ℕ) (r : Result ℕ ℕ) → IsStrictlyIncreasing xs → IsBinarySearchResult (λ y. nat_cmp y x) xs r → (is_ok r ≡ true) ↔ Contains xs x
is_found xs x (Ok i) rises h =
    let w = searched xs x (Ok i) h (not_falling xs rises) in
    (λ e. (i, w.0, get_or_default xs i x 0 w.0 ∙ w.1), λ there. refl)
is_found xs x (Err i) rises h = (λ e. absurd (true≢false (sym e)), λ there. absurd (apart there.0 there.1 there.2 (cases_lt there.0 i)))
  where
    place : (i ≤ length xs) × ((k : ℕ) → k < i → get_or xs k 0 < x) × ((k : ℕ) → i ≤ k → k < length xs → x < get_or xs k 0)
    place = searched xs x (Err i) h (not_falling xs rises)

    apart : (k : ℕ) → k < length xs → get_or xs k x ≡ x → (k < i) ⊎ (i ≤ k) → ⊥
    apart k small is (inl before) =
        let low = place.1 k before in
        let same = get_or_default xs k x 0 small in
        omega (arith, low, same, is)
    apart k small is (inr behind) =
        let high = place.2 k behind small in
        let same = get_or_default xs k x 0 small in
        omega (arith, high, same, is)
