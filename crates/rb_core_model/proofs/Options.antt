-- What follows from a look-up that found something, and from a refusal that doesn't apply.
use Rattle.std.proofs.Common.{◌≡◌, ◌⊎◌, ℕ, zero, suc, Bool, true, false, List, [], ◌∷◌, Option, Some, None, is_some, set, refl, sym, ap, ◌∙◌, inl, inr}
use Rattle.std.specs.List.{slice_get}
use Rattle.std.specs.Option.{option_map, option_map_or, option_and_then}
use Rattle.std.proofs.lemmas.Bool.{true≢false, false≢true, cases_eq}
use Rattle.std.proofs.lemmas.Option.{none-some, same_Some}
use Rattle.rb_script_types.specs.declared.refusal.Refusal.{Refusal}
use Rattle.rb_core_model.specs.Refusal.{refused_if}
use Rattle.rb_core_model.specs.Standing.{changed_at}

pub passes : (applies : Bool) (r : Refusal) (next : Option Refusal) → refused_if applies r next ≡ None → (applies ≡ false) × (next ≡ None)
passes true r next e = absurd (none-some r (sym e))
passes false r next e = (refl, e)

pub mapped : {A B : Type 0} (f : A → B) (o : Option A) (y : B) → option_map f o ≡ Some y → (x : A) × (o ≡ Some x) × (f x ≡ y)
mapped f None y e = absurd (none-some y e)
mapped f (Some x) y e = (x, refl, same_Some (f x) y e)

pub chained : {A B : Type 0} (f : A → Option B) (o : Option A) (y : B) → option_and_then f o ≡ Some y → (x : A) × (o ≡ Some x) × (f x ≡ Some y)
chained f None y e = absurd (none-some y e)
chained f (Some x) y e = (x, refl, e)

pub tested : {A : Type 0} (f : A → Bool) (o : Option A) → option_map_or f o false ≡ true → (x : A) × (o ≡ Some x) × (f x ≡ true)
tested f None e = absurd (false≢true e)
tested f (Some x) e = (x, refl, e)

pub none_from : {A : Type 0} (o : Option A) → is_some o ≡ false → o ≡ None
none_from None e = refl
none_from (Some x) e = absurd (true≢false e)

pub some_from : {A : Type 0} (o : Option A) → is_some o ≡ true → (x : A) × (o ≡ Some x)
some_from None e = absurd (false≢true e)
some_from (Some x) e = (x, refl)

-- ---- lists with one element changed

pub get_set_same : {X : Type 0} (xs : List X) (i : ℕ) (x y : X) → slice_get xs i ≡ Some x → slice_get (set xs i y) i ≡ Some y
get_set_same [] i x y e = absurd (none-some x e)
get_set_same (z ∷ xs) zero x y e = refl
get_set_same (z ∷ xs) (suc i) x y e = get_set_same xs i x y e

pub get_set_other : {X : Type 0} (xs : List X) (i j : ℕ) (y : X) → (j ≡ i → ⊥) → slice_get (set xs i y) j ≡ slice_get xs j
get_set_other [] i j y ne = refl
get_set_other (z ∷ xs) zero zero y ne = absurd (ne refl)
get_set_other (z ∷ xs) zero (suc j) y ne = refl
get_set_other (z ∷ xs) (suc i) zero y ne = refl
get_set_other (z ∷ xs) (suc i) (suc j) y ne = get_set_other xs i j y (λ e. ne (ap suc e))

pub get_changed_same : {X : Type 0} (f : X → X) (xs : List X) (i : ℕ) (x : X) → slice_get xs i ≡ Some x → slice_get (changed_at f xs i) i ≡ Some (f x)
get_changed_same f xs i x e = ap (λ o. slice_get (option_map_or (λ y. set xs i (f y)) o xs) i) e ∙ get_set_same xs i x (f x) e

pub get_changed_other : {X : Type 0} (f : X → X) (xs : List X) (i j : ℕ) → (j ≡ i → ⊥) → slice_get (changed_at f xs i) j ≡ slice_get xs j
get_changed_other f xs i j ne = go (slice_get xs i)
  where
    go : (o : Option _) → slice_get (option_map_or (λ y. set xs i (f y)) o xs) j ≡ slice_get xs j
    go None = refl
    go (Some x) = get_set_other xs i j (f x) ne

-- at any place: the element as it was, or changed
pub get_changed : {X : Type 0} (f : X → X) (xs : List X) (i j : ℕ) (y : X) → slice_get (changed_at f xs i) j ≡ Some y
    → (x : X) × (slice_get xs j ≡ Some x) × ((j ≡ i) × (y ≡ f x) ⊎ ((j ≡ i → ⊥) × (y ≡ x)))
get_changed {X} f xs i j y e = elim (cases_eq j i) [
  | inl same ↦ here (slice_get xs j) refl same
  | inr other ↦ (y, sym (get_changed_other f xs i j other) ∙ e, inr (other, refl))
]
  where
    here : (o : Option X) → slice_get xs j ≡ o → j ≡ i → (x : X) × (slice_get xs j ≡ Some x) × ((j ≡ i) × (y ≡ f x) ⊎ ((j ≡ i → ⊥) × (y ≡ x)))
    here None gone same =
        let at : slice_get xs i ≡ None = ap (slice_get xs) (sym same) ∙ gone in
        absurd (none-some y (sym gone ∙ sym (ap (λ o. slice_get (option_map_or (λ z. set xs i (f z)) o xs) j) at) ∙ e))
    here (Some x) at same =
        let at_i : slice_get xs i ≡ Some x = ap (slice_get xs) (sym same) ∙ at in
        (x, at, inl (same, same_Some y (f x) (sym e ∙ ap (slice_get (changed_at f xs i)) same ∙ get_changed_same f xs i x at_i)))
