-- lists: `Any` at a `∷` and through a filter, and what a filter leaves
use Rattle.std.proofs.Common.{◌≡◌, ℕ, map, zero, suc, ◌<◌, ◌≤◌, ◌⊎◌, Bool, true, false, List, [], ◌∷◌, length, get_or, All, Any, refl, sym, ◌∙◌, subst, inl, inr, arith}
use Rattle.std.specs.List.{filter}
use Rattle.std.proofs.lemmas.Bool.{cond_both, cond-false, false≢true}

module _ {X : Type 0} (P : X → Type 0) where
  pub Any-here : (x : X) (xs : List X) → P x → Any P (x ∷ xs)
  Any-here x xs here = (0, x, omega arith, refl, here)

  pub Any-there : (x : X) (xs : List X) → Any P xs → Any P (x ∷ xs)
  Any-there x xs h = (suc h.0, h.1, omega (arith, h.2), h.3, h.4)

  pub Any-cases : (x : X) (xs : List X) → Any P (x ∷ xs) → P x ⊎ Any P xs
  Any-cases x xs h = at h.0 h.1 h.2 h.3 h.4
    where
      at : (k : ℕ) (y : X) → k < length (x ∷ xs) → get_or (x ∷ xs) k y ≡ y → P y → P x ⊎ Any P xs
      at zero y below is holds = inl (subst P (sym is) holds)
      at (suc k) y below is holds = inr (k, y, omega arith, is, holds)

  pub Any-weaker : (Q : X → Type 0) → ((x : X) → P x → Q x) → (xs : List X) → Any P xs → Any Q xs
  Any-weaker Q f xs h = (h.0, h.1, h.2, h.3, f h.1 h.4)

  pub Any-both : (Q : X → Type 0) (xs : List X) → Any P xs → All Q xs → Any (λ x. P x × Q x) xs
  Any-both Q xs h all = (h.0, h.1, h.2, h.3, (h.4, subst Q h.3 (all h.0 h.1 h.2)))

  -- an element that has a property, where each element has another
  pub Any-with_all : (Q : X → Type 0) (xs : List X) → Any P xs → All Q xs → (x : X) × P x × Q x
  Any-with_all Q xs h all = (h.1, h.4, subst Q h.3 (all h.0 h.1 h.2))

  pub Any-filter : (p : X → Bool) → ((x : X) → P x → p x ≡ true) → (xs : List X) → Any P xs → Any P (filter p xs)
  Any-filter p f [] h = h
  Any-filter p f (x ∷ xs) h =
      let there = λ (i : Any P xs). Any-filter p f xs i in
      cond_both (p x) (x ∷ filter p xs) (filter p xs) (Any P)
      (λ _. kept there (Any-cases x xs h)) (λ fails. left there fails (Any-cases x xs h))
    where
      kept : (Any P xs → Any P (filter p xs)) → P x ⊎ Any P xs → Any P (x ∷ filter p xs)
      kept there (inl i) = Any-here x (filter p xs) i
      kept there (inr i) = Any-there x (filter p xs) (there i)

      left : (Any P xs → Any P (filter p xs)) → p x ≡ false → P x ⊎ Any P xs → Any P (filter p xs)
      left there fails (inl i) = absurd (false≢true (sym fails ∙ f x i))
      left there fails (inr i) = there i

pub Any-map : {X Y : Type 0} (P : X → Type 0) (f : Y → X) (ys : List Y) → Any (λ y. P (f y)) ys → Any P (map f ys)
Any-map P f [] h = absurd (omega (arith, h.2))
Any-map {X} {Y} P f (y ∷ ys) h = go (λ i. Any-map P f ys i) (Any-cases (λ z. P (f z)) y ys h)
  where
    go : (Any (λ z. P (f z)) ys → Any P (map f ys)) → P (f y) ⊎ Any (λ z. P (f z)) ys → Any P (map f (y ∷ ys))
    go there (inl here) = Any-here P (f y) (map f ys) here
    go there (inr i) = Any-there P (f y) (map f ys) (there i)

pub length-filter_le : {X : Type 0} (p : X → Bool) (xs : List X) → length (filter p xs) ≤ length xs
length-filter_le p [] = omega arith
length-filter_le p (x ∷ xs) =
    let rest = length-filter_le p xs in
    cond_both (p x) (x ∷ filter p xs) (filter p xs) (λ ys. length ys ≤ length (x ∷ xs)) (λ _. omega (arith, rest)) (λ _. omega (arith, rest))

-- a filter that an element fails leaves fewer
pub length-filter_lt : {X : Type 0} (p : X → Bool) (xs : List X) → Any (λ x. p x ≡ false) xs → length (filter p xs) < length xs
length-filter_lt p [] h = absurd (omega (arith, h.2))
length-filter_lt {X} p (x ∷ xs) h = go (λ i. length-filter_lt p xs i) (Any-cases (λ y. p y ≡ false) x xs h)
  where
    go : (Any (λ y. p y ≡ false) xs → length (filter p xs) < length xs) → (p x ≡ false) ⊎ Any (λ y. p y ≡ false) xs → length (filter p (x ∷ xs)) < length (x ∷ xs)
    go there (inl fails) = rw (cond-false (p x) (x ∷ filter p xs) (filter p xs) fails) (omega (arith, length-filter_le p xs))
    go there (inr i) =
        let rest = there i in
        cond_both (p x) (x ∷ filter p xs) (filter p xs) (λ ys. length ys < length (x ∷ xs)) (λ _. omega (arith, rest)) (λ _. omega (arith, rest))
