-- What a search among numbers says that don't fall.
use Rattle.std.proofs.Common.{◌≡◌, ◌≢◌, ℕ, ◌<◌, ◌≤◌, ◌⊎◌, List, length, get_or, Result, Ok, Err, true, false, inl, inr, sym, arith}
use Rattle.std.specs.Prelude.{◌==◌, is_ok}
use Rattle.std.specs.List.{list_any}
use Rattle.std.specs.List.Sorted.{IsNonDecreasing, IsBinarySearchResult}
use Rattle.std.specs.Ordering.{nat_cmp}
use Rattle.std.proofs.lemmas.Bool.{cases_lt}
use Rattle.std.proofs.lemmas.Bool.Decides.{nat_tests}
use Rattle.std.proofs.lemmas.Grind.{common_steps}
use Rattle.std.proofs.lemmas.List.{get_or_default}
use Rattle.std.proofs.lemmas.List.Folds.{list_any_at, list_any_none}
use Rattle.std.proofs.lemmas.List.Sorted.{searched}

same_test : (a b : ℕ) → a ≡ b → (a == b) ≡ true
same_test a b e = grind (arith, nat_tests, common_steps)

other_test : (a b : ℕ) → a ≢ b → (a == b) ≡ false
other_test a b e = grind (arith, nat_tests, common_steps)

-- a number is found where it is one of them
pub is_found : (xs : List ℕ) (x : ℕ) (r : Result ℕ ℕ) → IsNonDecreasing xs → IsBinarySearchResult (λ y. nat_cmp y x) xs r → is_ok r ≡ list_any (λ m. m == x) xs
is_found xs x (Ok i) rises h =
    let w = searched xs x (Ok i) h (λ i j le small. rises i j 0 le small) in
    sym (list_any_at (λ m. m == x) xs i 0 w.0 (same_test (get_or xs i 0) x w.1))
is_found xs x (Err i) rises h = sym (list_any_none (λ m. m == x) xs (λ k d small. other_test (get_or xs k d) x (apart k d small (cases_lt k i))))
  where
    place : (i ≤ length xs) × ((k : ℕ) → k < i → get_or xs k 0 < x) × ((k : ℕ) → i ≤ k → k < length xs → x < get_or xs k 0)
    place = searched xs x (Err i) h (λ i j le small. rises i j 0 le small)

    apart : (k d : ℕ) → k < length xs → (k < i) ⊎ (i ≤ k) → get_or xs k d ≢ x
    apart k d small (inl before) is = let low = place.1 k before in let at = get_or_default xs k d 0 small in omega (arith, low, at, is)
    apart k d small (inr behind) is = let high = place.2 k behind small in let at = get_or_default xs k d 0 small in omega (arith, high, at, is)
