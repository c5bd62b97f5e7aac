-- What a search finds of elements of which one at most has the number.
use Rattle.std.proofs.Common.{◌≡◌, ℕ, zero, suc, ◌==◌, List, [], ◌∷◌, Option, Some, Bool, true, false, All, refl, sym, arith, cond}
use Rattle.std.specs.Prelude.{◌++◌, Contains, IfSome, find}
use Rattle.std.specs.Option.{option_or}
use Rattle.std.proofs.lemmas.List.Folds.{find-append}
use Rattle.std.proofs.lemmas.Grind.{common_steps}

nat_eq : {a b : ℕ} → true ≡ (a == b) → a ≡ b
nat_eq e = grind (arith, common_steps)

module _ {X : Type 0} (key : X → ℕ) (h : ℕ) where
  by_head : (x : X) (xs : List X) (r : Option X) (b : Bool) → b ≡ (key x == h)
      → IfSome r (λ c. Contains (x ∷ xs) c × (key c ≡ h)) → All (λ c. key c ≡ h → r ≡ Some c) (x ∷ xs)
      → (IfSome r (λ c. Contains xs c × (key c ≡ h)) → find (λ c. key c == h) xs ≡ r)
      → cond b (Some x) (find (λ c. key c == h) xs) ≡ r
  by_head x xs r true e found only rest = let same : key x ≡ h = nat_eq e in sym (only zero x (omega arith) same)
  by_head x xs r false e found only rest = grind (arith, common_steps)

  pub find_only : (xs : List X) (r : Option X) → IfSome r (λ c. Contains xs c × (key c ≡ h)) → All (λ c. key c ≡ h → r ≡ Some c) xs
      → find (λ c. key c == h) xs ≡ r
  find_only [] r found only = grind (arith, common_steps)
  find_only (x ∷ xs) r found only = by_head x xs r (key x == h) refl found only (λ f. find_only xs r f (λ k d less. only (suc k) d (omega arith)))

-- what is found in two lists is found in the first, or else in the second
pub find_in_both : {X : Type 0} (p : X → Bool) (xs ys : List X) → find p (xs ++ ys) ≡ option_or (find p xs) (find p ys)
find_in_both p xs ys = find-append p xs ys
