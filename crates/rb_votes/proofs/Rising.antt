-- lists that rise strictly: two of them with the same elements are one list
use Rattle.std.proofs.Common.{◌≡◌, ◌≢◌, ℕ, zero, suc, ◌<◌, Bool, List, [], ◌∷◌, length, get_or, filter, refl, sym, ap, ◌∙◌, arith}
use Rattle.std.specs.Prelude.{AllPairs}
use Rattle.std.specs.List.{All, Contains}
use Rattle.std.specs.Ordering.{ordering_reverse}
use Rattle.std.specs.Cmp.{IsTotalOrder}
use Rattle.std.specs.declared.cmp.Ordering.{Ordering}
use Rattle.std.specs.declared.cmp.Ordering.TheVariants.{Less, Equal, Greater}
use Rattle.std.proofs.lemmas.Bool.{cond_both}
use Rattle.std.proofs.lemmas.Cmp.{tied_itself}
use Rattle.std.proofs.lemmas.List.Elements.{All-filter}

module _ {X : Type 0} {R : X → X → Ordering} (o : IsTotalOrder R) where
  -- each element is below all later ones
  abbrev pub Rises : List X → Type 0
  Rises [] = Unit {0}
  Rises (x ∷ xs) = All (λ y. R x y ≡ Less) xs × Rises xs

  pub Rises-from_pairs : (xs : List X) → AllPairs (λ x y. R x y ≡ Less) xs → Rises xs
  Rises-from_pairs [] h = tt
  Rises-from_pairs (x ∷ xs) h = (
    λ k d less. h 0 (suc k) d (omega arith) (omega arith),
    Rises-from_pairs xs (λ i j d less within. h (suc i) (suc j) d (omega arith) (omega arith)),
  )

  pub Rises-at : (xs : List X) → Rises xs → (i j : ℕ) (d : X) → i < j → j < length xs → R (get_or xs i d) (get_or xs j d) ≡ Less
  Rises-at [] rises i j d less within = absurd (omega (arith, within))
  Rises-at (x ∷ xs) rises i zero d less within = absurd (omega (arith, less))
  Rises-at (x ∷ xs) rises zero (suc j) d less within = rises.0 j d (omega (arith, within))
  Rises-at (x ∷ xs) rises (suc i) (suc j) d less within = Rises-at xs rises.1 i j d (omega (arith, less)) (omega (arith, within))

  pub Rises-filter : (p : X → Bool) (xs : List X) → Rises xs → Rises (filter p xs)
  Rises-filter p [] rises = tt
  Rises-filter p (x ∷ xs) rises =
      let rest = Rises-filter p xs rises.1 in
      cond_both (p x) (x ∷ filter p xs) (filter p xs) Rises (λ _. (All-filter p (λ y. R x y ≡ Less) xs rises.0, rest)) (λ _. rest)

  not_itself : (x y : X) → R x y ≡ Less → x ≢ y
  not_itself x y less e = let same : R x y ≡ Equal = sym (ap (λ z. R x z) e) ∙ tied_itself o x in cc

  not_both : (x y : X) → R x y ≡ Less → R y x ≡ Less → ⊥
  not_both x y p q = let turned : R x y ≡ Greater = o.antisymm x y ∙ ap ordering_reverse q in cc

  same_head : (x y : X) (xs ys : List X) → All (λ z. R x z ≡ Less) xs → All (λ z. R y z ≡ Less) ys
      → (j k : ℕ) → j < length (y ∷ ys) → get_or (y ∷ ys) j x ≡ x → k < length (x ∷ xs) → get_or (x ∷ xs) k y ≡ y → x ≡ y
  same_head x y xs ys below above zero k p e q f = sym e
  same_head x y xs ys below above (suc j) zero p e q f = f
  same_head x y xs ys below above (suc j) (suc k) p e q f =
      absurd (not_both x y (sym (ap (λ z. R x z) f) ∙ below k y (omega arith)) (sym (ap (λ z. R y z) e) ∙ above j x (omega arith)))

  in_tail : (x y z : X) (ys : List X) → x ≡ y → R x z ≡ Less → (j : ℕ) → j < length (y ∷ ys) → get_or (y ∷ ys) j z ≡ z → Contains ys z
  in_tail x y z ys same less zero p e = absurd (not_itself x z less (same ∙ e))
  in_tail x y z ys same less (suc j) p e = (j, omega arith, e)

  tail_contains : (x y : X) (xs ys : List X) → x ≡ y → All (λ z. R x z ≡ Less) xs
      → ((z : X) → Contains (x ∷ xs) z → Contains (y ∷ ys) z) → (z : X) → Contains xs z → Contains ys z
  tail_contains x y xs ys same below sub z c =
      let less : R x z ≡ Less = sym (ap (λ w. R x w) c.2) ∙ below c.0 z c.1 in
      let there = sub z (suc c.0, omega (arith, c.1), c.2) in
      in_tail x y z ys same less there.0 there.1 there.2

  pub same_elements : (xs ys : List X) → Rises xs → Rises ys
      → ((z : X) → Contains xs z → Contains ys z) → ((z : X) → Contains ys z → Contains xs z) → xs ≡ ys
  same_elements [] [] p q f g = refl
  same_elements [] (y ∷ ys) p q f g = absurd (let c = g y (0, omega arith, refl) in omega (arith, c.1))
  same_elements (x ∷ xs) [] p q f g = absurd (let c = f x (0, omega arith, refl) in omega (arith, c.1))
  same_elements (x ∷ xs) (y ∷ ys) p q f g =
      let c = f x (0, omega arith, refl) in
      let d = g y (0, omega arith, refl) in
      let head : x ≡ y = same_head x y xs ys p.0 q.0 c.0 d.0 c.1 c.2 d.1 d.2 in
      let tail : xs ≡ ys = same_elements xs ys p.1 q.1 (tail_contains x y xs ys head p.0 f) (tail_contains y x ys xs (sym head) q.0 g) in
      λ i. head i ∷ tail i
