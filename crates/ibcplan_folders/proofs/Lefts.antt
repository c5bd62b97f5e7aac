-- What stays of a list, an item more.
use Rattle.std.proofs.Common.{◌≡◌, ◌≤◌, ◌+◌, ℕ, List, [], ◌∷◌, ◌++◌, filter, get_or, length, map, Bool, true, false, cond, refl, sym, ap, ◌∙◌, arith}
use Rattle.std.specs.List.{items_where_true}
use Rattle.std.proofs.lemmas.List.{length-map}

none : {X : Type 0} (stay : List Bool) → items_where_true {X = X} stay [] ≡ []
none [] = refl
none (b ∷ stay) = refl

pub begun : {X : Type 0} (stay : List Bool) (done : List X) → done ≡ [] → done ≡ items_where_true stay []
begun stay done empty = empty ∙ sym (none stay)

append_nil : {A : Type 0} (xs : List A) → xs ++ [] ≡ xs
append_nil [] = refl
append_nil (x ∷ xs) = ap (λ ys. x ∷ ys) (append_nil xs)

one_more : {X : Type 0} (stay : List Bool) (xs : List X) (x : X) → items_where_true stay (xs ++ x ∷ []) ≡ items_where_true stay xs ++ cond (get_or stay (length xs) false) (x ∷ []) []
one_more [] xs x = refl
one_more (true ∷ stay) [] x = ap (λ l. x ∷ l) (none stay)
one_more (false ∷ stay) [] x = none stay
one_more (true ∷ stay) (y ∷ xs) x = ap (λ l. y ∷ l) (one_more stay xs x)
one_more (false ∷ stay) (y ∷ xs) x = one_more stay xs x

pub taken : {X : Type 0} (stay : List Bool) (done xs : List X) (x : X) (place : ℕ) → place ≡ length xs → get_or stay place false ≡ true → done ≡ items_where_true stay xs → done ++ x ∷ [] ≡ items_where_true stay (xs ++ x ∷ [])
taken stay done xs x place at stays was =
    ap (λ l. l ++ x ∷ []) was ∙ sym (one_more stay xs x ∙ ap (λ b. items_where_true stay xs ++ cond b (x ∷ []) []) (ap (λ n. get_or stay n false) (sym at) ∙ stays))

pub gone : {X : Type 0} (stay : List Bool) (done xs : List X) (x : X) (place : ℕ) → place ≡ length xs → get_or stay place false ≡ false → done ≡ items_where_true stay xs → done ≡ items_where_true stay (xs ++ x ∷ [])
gone stay done xs x place at goes was =
    was ∙ sym (one_more stay xs x ∙ ap (λ b. items_where_true stay xs ++ cond b (x ∷ []) []) (ap (λ n. get_or stay n false) (sym at) ∙ goes) ∙ append_nil (items_where_true stay xs))

pub ruleset leaving = (begun, taken, gone)

one_short : {X : Type 0} (b : Bool) (x : X) (left all : List X) → length left ≤ length all → length (cond b (x ∷ left) left) ≤ length (x ∷ all)
one_short true x left all short = omega (arith, short)
one_short false x left all short = omega (arith, short)

short : {X : Type 0} (p : X → Bool) (xs : List X) → length (filter p xs) ≤ length xs
short p [] = omega arith
short p (x ∷ xs) = one_short (p x) x (filter p xs) xs (short p xs)

-- of two lists no more is left
pub not_more : {A B V : Type 0} (p : A → Bool) (q : B → Bool) (view moved : B → V) (xs left : List A) (ys others : List B) → left ≡ filter p xs → map view others ≡ map moved (filter q ys)
    → length left + length others ≤ length xs + length ys
not_more p q view moved xs left ys others first second =
    let one : length left ≡ length (filter p xs) = ap length first in
    let two : length (map view others) ≡ length (map moved (filter q ys)) = ap length second in
    omega (arith, one, two, length-map others view, length-map (filter q ys) moved, short p xs, short q ys)
