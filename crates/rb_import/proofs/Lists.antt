-- Two lists side by side, from a place on; pairs of elements of a list, one after another; an element that isn't there; and one that hasn't what all are to have.
use Rattle.std.proofs.Common.{◌≡◌, ℕ, ◌+◌, ◌<◌, ◌≤◌, List, [], ◌∷◌, ◌++◌, map, take, drop, length, get_or, zip, slice_get, Option, Some, None, All, AllPairs, subst, sym, ap, ◌∙◌, refl, arith}
use Rattle.std.specs.List.{enumerate_from}
use Rattle.std.proofs.lemmas.List.{append-nil, append_assoc, drop_all, drop_more, take_more, length-take-le, get_or-take, get_or_default}
use Rattle.std.proofs.lemmas.List.Quantifiers.{all_pairs_push}
use Rattle.std.proofs.lemmas.List.Elements.{All-head, All-tail}
use Rattle.std.proofs.lemmas.Option.{get_or_from_slice_get, slice_get_past, slice_get_within}

pub zip_more : {A B : Type 0} (xs : List A) (ys : List B) (i : ℕ) (x : A) (y : B) → i < length xs → x ≡ get_or xs i x → slice_get ys i ≡ Some y
    → zip (drop i xs) (drop i ys) ≡ (x, y) ∷ zip (drop (i + 1) xs) (drop (i + 1) ys)
zip_more xs ys i x y small is found =
    let left : drop i xs ≡ x ∷ drop (i + 1) xs = drop_more xs i x small ∙ ap (λ a. a ∷ drop (i + 1) xs) (sym is) in
    let right : drop i ys ≡ y ∷ drop (i + 1) ys = drop_more ys i y (slice_get_within ys i y found) ∙ ap (λ a. a ∷ drop (i + 1) ys) (get_or_from_slice_get ys i y y found) in
    rw (left, right) refl

module _ {X : Type 0} (R : X → X → Type 0) (xs : List X) (n : ℕ) (x : X) where
  -- one more element
  pub pairs_more : n < length xs → x ≡ get_or xs n x → AllPairs R (take n xs) → All (λ y. R y x) (take n xs) → AllPairs R (take (n + 1) xs)
  pairs_more within e kept new = rw (take_more xs n x within, sym e) (all_pairs_push R (take n xs) x kept new)

  -- each element before it
  pub pairs_before : n < length xs → x ≡ get_or xs n x → AllPairs R xs → All (λ y. R y x) (take n xs)
  pairs_before within e kept k d lt =
      let long = length-take-le n xs (omega (arith, within)) in
      let below : k < n = omega (arith, lt, long) in
      rw (get_or-take n xs k d below) (subst (R (get_or xs k d)) (get_or_default xs n d x within ∙ sym e) (kept k n d below within))

-- an element that isn't there adds nothing
pub nothing_at : {X A : Type 0} (part : Option X → List A) (xs : List X) (i : ℕ) (old : List A) → part None ≡ [] → length xs ≤ i → old ≡ old ++ part (slice_get xs i)
nothing_at part xs i old none past = sym (ap (λ o. old ++ part o) (slice_get_past xs i past) ∙ ap (λ l. old ++ l) none ∙ append-nil old)

module _ {A B C : Type 0} (f : A × B → C) (xs : List A) (ys : List B) (i : ℕ) (x : A) (y : B) (done all : List C) where
  abbrev pub rest : List C
  rest = map f (zip (drop (i + 1) xs) (drop (i + 1) ys))

  -- what is made of two elements side by side stands behind what was made of those before them
  pub zipped_at : i < length xs → x ≡ get_or xs i x → slice_get ys i ≡ Some y → done ++ map f (zip (drop i xs) (drop i ys)) ≡ all → done ++ f (x, y) ∷ rest ≡ all
  zipped_at small is found was = ap (λ l. done ++ map f l) (sym (zip_more xs ys i x y small is found)) ∙ was

  -- with it
  pub zipped_on : (after : List C) → i < length xs → x ≡ get_or xs i x → slice_get ys i ≡ Some y → after ≡ done ++ f (x, y) ∷ []
      → done ++ map f (zip (drop i xs) (drop i ys)) ≡ all → after ++ rest ≡ all
  zipped_on after small is found more was = ap (λ l. l ++ rest) more ∙ append_assoc done (f (x, y) ∷ []) rest ∙ zipped_at small is found was

-- beside no element nothing is made
pub zipped_end : {A B C : Type 0} (f : A × B → C) (xs : List A) (ys : List B) (i : ℕ) (done all : List C) → length ys ≤ i → done ++ map f (zip (drop i xs) (drop i ys)) ≡ all → done ≡ all
zipped_end f xs ys i done all past was = sym (append-nil done) ∙ ap (λ l. done ++ map f l) (sym (nothing (drop i xs) (drop i ys) (drop_all i ys past))) ∙ was where
  nothing : {A B : Type 0} (ws : List A) (bs : List B) → bs ≡ [] → zip ws bs ≡ []
  nothing [] bs none = refl
  nothing (a ∷ ws) bs none = rw none refl

-- all have what each has that is made
one_in : {C : Type 0} (P : C → Type 0) (done rest : List C) (c : C) → All P (done ++ c ∷ rest) → P c
one_in P [] rest c each = All-head P c rest each
one_in P (x ∷ done) rest c each = one_in P done rest c (All-tail P x (done ++ c ∷ rest) each)

pub one_out : {C : Type 0} (P : C → Type 0) (done rest all : List C) (c : C) → done ++ c ∷ rest ≡ all → ¬ P c → ¬ All P all
one_out P done rest all c is out each = out (one_in P done rest c (subst (All P) (sym is) each))

-- so it is with one that is made of an element and its place
pub numbered_out : {A C : Type 0} (P : C → Type 0) (f : ℕ × A → C) (xs : List A) (i : ℕ) (x : A) (done all : List C) → i < length xs → x ≡ get_or xs i x
    → done ++ map f (enumerate_from i (drop i xs)) ≡ all → ¬ P (f (i, x)) → ¬ All P all
numbered_out P f xs i x done all small is was out =
    let here : drop i xs ≡ x ∷ drop (i + 1) xs = drop_more xs i x small ∙ ap (λ a. a ∷ drop (i + 1) xs) (sym is) in
    one_out P done _ all (f (i, x)) (ap (λ l. done ++ map f (enumerate_from i l)) (sym here) ∙ was) out
