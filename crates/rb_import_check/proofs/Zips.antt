-- Two lists side by side.
use Rattle.std.proofs.Common.{◌≡◌, ℕ, ◌+◌, ◌<◌, List, [], ◌∷◌, ◌++◌, length, get_or, take, sym, subst}
use Rattle.std.specs.Prelude.{IsSomeAnd, MatchOption, slice_get}
use Rattle.std.specs.List.{AllZip}
use Rattle.std.proofs.lemmas.List.{take_more}
use Rattle.std.proofs.lemmas.Option.{slice_get-get_or}
use Rattle.std.proofs.lemmas.Slice.Zip.{AllZip-left, all_zipped_more}

module _ {A B : Type 0} (R : A → B → Type 0) where
  -- a pair more
  zipped_more : (xs : List A) (ys : List B) (i : ℕ) (d : A) (e : B) → i < length xs → i < length ys → AllZip R (take i xs) (take i ys) → R (get_or xs i d) (get_or ys i e)
      → AllZip R (take (i + 1) xs) (take (i + 1) ys)
  zipped_more xs ys i d e here there all holds =
      let left = take_more xs i d here in
      let right = take_more ys i e there in
      subst (λ l. AllZip R l (take (i + 1) ys)) (sym left) (subst (AllZip R (take i xs ++ get_or xs i d ∷ [])) (sym right) (all_zipped_more R (take i xs) (take i ys) _ _ all holds))

  -- a pair of which it doesn't hold
  not_zipped : (xs : List A) (ys : List B) (i : ℕ) (d : A) (e : B) → i < length xs → i < length ys → (R (get_or xs i d) (get_or ys i e) → ⊥) → AllZip R xs ys → ⊥
  not_zipped xs ys i d e here there fails all =
      let at = AllZip-left R xs ys all i in
      let first = subst (λ o. MatchOption o (Unit {0}) (λ a. IsSomeAnd (slice_get ys i) (R a))) (slice_get-get_or xs i d here) at in
      fails (subst (λ o. IsSomeAnd o (R (get_or xs i d))) (slice_get-get_or ys i e there) first)

  -- the same, where the second element was read
  pub zipped_item : (xs : List A) (ys : List B) (i : ℕ) (d : A) (y : B) → i < length xs → i < length ys → y ≡ get_or ys i y → AllZip R (take i xs) (take i ys) → R (get_or xs i d) y
      → AllZip R (take (i + 1) xs) (take (i + 1) ys)
  zipped_item xs ys i d y here there is all holds = zipped_more xs ys i d y here there all (subst (R (get_or xs i d)) is holds)

  pub not_zipped_item : (xs : List A) (ys : List B) (i : ℕ) (d : A) (y : B) → i < length xs → i < length ys → y ≡ get_or ys i y → (R (get_or xs i d) y → ⊥) → AllZip R xs ys → ⊥
  not_zipped_item xs ys i d y here there is fails = not_zipped xs ys i d y here there (λ holds. fails (subst (R (get_or xs i d)) (sym is) holds))
