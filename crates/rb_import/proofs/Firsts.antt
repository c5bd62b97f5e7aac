-- The first of what elements hold.
use Rattle.std.proofs.Common.{◌≡◌, ℕ, zero, suc, ◌<◌, List, [], ◌∷◌, ◌++◌, length, take, get_or, Some, None, refl, sym, subst, ap, ◌∙◌, arith}
use Rattle.std.specs.Prelude.{slice_get, string_bytes}
use Rattle.std.specs.List.{flat_map}
use Rattle.std.proofs.lemmas.Option.{none-some, same_Some}
use Rattle.rb_import_answers.specs.declared.verdicts.Verdicts.{Verdicts}
use Rattle.rb_import.specs.Openings.{verifier_in}

front_nil : {A : Type 0} (xs ys : List A) → xs ++ ys ≡ [] → xs ≡ []
front_nil [] ys e = refl
front_nil (x ∷ xs) ys e = absurd (cc e)

first_left : {A : Type 0} (xs ys : List A) (a : A) → slice_get xs 0 ≡ Some a → slice_get (xs ++ ys) 0 ≡ Some a
first_left [] ys a e = absurd (none-some a e)
first_left (x ∷ xs) ys a e = e

-- the elements before it hold none
pub first_found : {X A : Type 0} (f : X → List A) (xs : List X) (i : ℕ) (x : X) (a : A) → i < length xs → x ≡ get_or xs i x → flat_map f (take i xs) ≡ []
    → slice_get (f x) 0 ≡ Some a → slice_get (flat_map f xs) 0 ≡ Some a
first_found f [] i x a small is none found = absurd (omega (arith, small))
first_found f (y ∷ ys) zero x a small is none found = first_left (f y) (flat_map f ys) a (subst (λ z. slice_get (f z) 0 ≡ Some a) is found)
first_found f (y ∷ ys) (suc i) x a small is none found =
    let empty : f y ≡ [] = front_nil (f y) (flat_map f (take i ys)) none in
    let rest : flat_map f (take i ys) ≡ [] = ap (λ l. l ++ flat_map f (take i ys)) (sym empty) ∙ none in
    ap (λ l. slice_get (l ++ flat_map f ys) 0) empty ∙ first_found f ys i x a (omega (arith, small)) is rest found

-- who verified the first of some verdicts
pub verifier_first : (vs : List Verdicts) (v : Verdicts) → slice_get vs 0 ≡ Some v → string_bytes v.verifier ≡ verifier_in vs
verifier_first [] v e = absurd (none-some v e)
verifier_first (w ∷ ws) v e = ap (λ (x : Verdicts). string_bytes x.verifier) (sym (same_Some w v e))

pub no_verifier : (vs : List Verdicts) → vs ≡ [] → verifier_in [] ≡ verifier_in vs
no_verifier vs e = ap verifier_in (sym e)

pub nil_from_none : {A : Type 0} (xs : List A) → slice_get xs 0 ≡ None → xs ≡ []
nil_from_none [] e = refl
nil_from_none (x ∷ xs) e = absurd (none-some x (sym e))
