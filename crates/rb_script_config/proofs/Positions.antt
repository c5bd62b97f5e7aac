-- Where an element stands in a list that another was made of, and in one with one more element.
use Rattle.std.proofs.Common.{◌≡◌, ℕ, ◌+◌, suc, List, [], ◌∷◌, ◌++◌, length, map, Option, Some, None, cond, Bool, true, false, refl, sym, ap, ◌∙◌, arith}
use Rattle.std.proofs.lemmas.List.{length-map}
use Rattle.std.proofs.lemmas.Iterator.Adapters.{position_from-zero}
use Rattle.std.specs.List.{position, position_or_len, position_from}
use Rattle.std.specs.Option.{option_or}

first-map : {A B : Type 0} (p : B → Bool) (f : A → B) (xs : List A) → position_or_len (λ x. p (f x)) xs ≡ position_or_len p (map f xs)
first-map p f [] = refl
first-map p f (x ∷ xs) = rw (first-map p f xs) refl

pub position-map : {A B : Type 0} (p : B → Bool) (f : A → B) (xs : List A) → position (λ x. p (f x)) xs ≡ position p (map f xs)
position-map p f xs = rw (first-map p f xs, length-map xs f) refl

-- ---- one more element

push-here : (b : Bool) (i : ℕ) (later rest last : Option ℕ) → later ≡ option_or rest last → cond b (Some i) later ≡ option_or (cond b (Some i) rest) last
push-here true i later rest last h = refl
push-here false i later rest last h = h

from-push : {A : Type 0} (p : A → Bool) (i : ℕ) (xs : List A) (x : A)
    → position_from p i (xs ++ x ∷ []) ≡ option_or (position_from p i xs) (cond (p x) (Some (i + length xs)) None)
from-push p i [] x = let same : i ≡ i + 0 = omega arith in ap (λ n. cond (p x) (Some n) None) same
from-push p i (y ∷ xs) x =
    let same : (i + 1) + length xs ≡ i + suc (length xs) = omega arith in
    push-here (p y) i _ _ _ (from-push p (i + 1) xs x ∙ ap (λ n. option_or (position_from p (i + 1) xs) (cond (p x) (Some n) None)) same)

pub position-push : {A : Type 0} (p : A → Bool) (xs : List A) (x : A) → position p (xs ++ x ∷ []) ≡ option_or (position p xs) (cond (p x) (Some (length xs)) None)
position-push p xs x =
    let same : 0 + length xs ≡ length xs = omega arith in
    position_from-zero p (xs ++ x ∷ []) ∙ from-push p 0 xs x ∙ ap (λ n. option_or (position_from p 0 xs) (cond (p x) (Some n) None)) same
    ∙ ap (λ o. option_or o (cond (p x) (Some (length xs)) None)) (sym (position_from-zero p xs))
