-- Sequences that are sorted are those that the answers tell of.
use Rattle.std.proofs.Common.{◌≡◌, ℕ, ◌==◌, ◌||◌, List, [], ◌∷◌, ◌++◌, Bool, true, false, refl, sym, ap, ◌∙◌}
use Rattle.std.specs.List.{flat_map, list_any}
use Rattle.std.specs.List.Sorted.{IsPermutation}
use Rattle.std.proofs.lemmas.List.Concat.{flat_map-cons}
use Rattle.std.proofs.lemmas.List.Sorted.{list_any-IsPermutation}

either_more : (a b c : Bool) → a || (b || c) ≡ (a || b) || c
either_more true b c = refl
either_more false b c = refl

any_append : {X : Type 0} (p : X → Bool) (xs ys : List X) → list_any p (xs ++ ys) ≡ list_any p xs || list_any p ys
any_append p [] ys = refl
any_append p (x ∷ xs) ys = ap (λ b. p x || b) (any_append p xs ys) ∙ either_more (p x) (list_any p xs) (list_any p ys)

any_flat : {X A : Type 0} (f : X → List A) (p : A → Bool) (xs : List X) → list_any p (flat_map f xs) ≡ list_any (λ x. list_any p (f x)) xs
any_flat f p [] = refl
any_flat f p (x ∷ xs) =
    ap (list_any p) (flat_map-cons f x xs) ∙ any_append p (f x) (flat_map f xs) ∙ ap (λ b. list_any p (f x) || b) (any_flat f p xs)

-- one is among the sorted ones where one of the answers tells of it
pub sorted_are : {X : Type 0} (f : X → List ℕ) (xs : List X) (all sorted : List ℕ) → all ≡ flat_map f xs → IsPermutation all sorted → (n : ℕ)
    → list_any (λ m. m == n) sorted ≡ list_any (λ x. list_any (λ m. m == n) (f x)) xs
sorted_are f xs all sorted same moved n =
    sym (list_any-IsPermutation (λ m. m == n) all sorted moved) ∙ ap (list_any (λ m. m == n)) same ∙ any_flat f (λ m. m == n) xs
