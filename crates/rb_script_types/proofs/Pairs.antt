-- Pairs of elements of a list, one after another.
use Rattle.std.proofs.Common.{◌≡◌, ℕ, ◌+◌, ◌<◌, List, take, length, get_or, All, AllPairs, sym, subst, ◌∙◌, arith}
use Rattle.std.proofs.lemmas.List.{take_more, length-take-le, get_or-take, get_or_default}
use Rattle.std.proofs.lemmas.List.Elements.{All-push}
use Rattle.std.proofs.lemmas.List.Quantifiers.{all_pairs_push}

-- one more element that has what all before it have
pub all_more : {X : Type 0} → (P : X → Type 0) (xs : List X) (n : ℕ) (x : X) → n < length xs → x ≡ get_or xs n x → All P (take n xs) → P x → All P (take (n + 1) xs)
all_more P xs n x within e kept new = rw (take_more xs n x within, sym e) (All-push P (take n xs) x kept new)

module _ {X : Type 0} (R : X → X → Type 0) (xs : List X) (n : ℕ) (x : X) where
  -- one more element
  pub pairs_more : n < length xs → x ≡ get_or xs n x → AllPairs R (take n xs) → All (λ y. R y x) (take n xs) → AllPairs R (take (n + 1) xs)
  pairs_more within e kept new = rw (take_more xs n x within, sym e) (all_pairs_push R (take n xs) x kept new)

  -- each element before it
  pub pairs_before : n < length xs → x ≡ get_or xs n x → AllPairs R xs → All (λ y. R y x) (take n xs)
  pairs_before within e kept k d lt =
      let long = length-take-le n xs (omega (arith, within)) in
      let below : k < n = omega (arith, lt, long) in
      rw (get_or-take n xs k d below) (subst (R (get_or xs k d)) (get_or_default xs n d x within ∙ sym e) (kept k n d below within))
