-- What is among the elements of a list, of a map, a filter and joined lists.
use Rattle.std.proofs.Common.{◌≡◌, ◌⊎◌, ℕ, zero, suc, ◌≤◌, nat_le, List, [], ◌∷◌, map, filter, Bool, true, false, cond, inl, inr, refl, sym, subst, ap, ◌∙◌, arith}
use Rattle.std.specs.Prelude.{Contains}
use Rattle.std.specs.List.{flat_map, list_any}
use Rattle.std.proofs.lemmas.Bool.{true≢false}
use Rattle.std.proofs.lemmas.Bool.Decides.{nat_tests}
use Rattle.std.proofs.lemmas.List.Elements.{All-contains, All-contains_itself, All-filter, Contains-append_cases, Contains-append_left, Contains-append_right, filter_passes}
use Rattle.std.proofs.lemmas.List.Folds.{Any-from_list_any, list_any_at}

pub cases : {X : Type 0} (y x : X) (xs : List X) → Contains (y ∷ xs) x → (x ≡ y) ⊎ Contains xs x
cases y x xs (zero, small, is) = inl (sym is)
cases y x xs (suc k, small, is) = inr (k, omega arith, is)

pub later : {X : Type 0} (y x : X) (xs : List X) → Contains xs x → Contains (y ∷ xs) x
later y x xs (k, small, is) = (suc k, omega arith, is)

-- one of them passes a test
pub any_at : {X : Type 0} (p : X → Bool) (xs : List X) (x : X) → Contains xs x → p x ≡ true → list_any p xs ≡ true
any_at p xs x (k, small, is) passes = list_any_at p xs k x small (subst (λ y. p y ≡ true) (sym is) passes)

pub one_passes : {X : Type 0} (p : X → Bool) (xs : List X) → list_any p xs ≡ true → (x : X) × Contains xs x × (p x ≡ true)
one_passes p xs e = let (k, x, small, is, passes) = Any-from_list_any p xs e in (x, (k, small, is), passes)

pub le_true : (a b : ℕ) → a ≤ b → nat_le a b ≡ true
le_true a b le = grind (arith, nat_tests, le)

-- ---- of a map

pub in_map : {X Y : Type 0} (f : X → Y) (xs : List X) (x : X) → Contains xs x → Contains (map f xs) (f x)
in_map f [] x c = absurd (omega (arith, c.1))
in_map f (y ∷ xs) x (zero, small, is) = (0, omega arith, ap f is)
in_map f (y ∷ xs) x (suc k, small, is) = later (f y) (f x) (map f xs) (in_map f xs x (k, omega arith, is))

pub from_map : {X Y : Type 0} (f : X → Y) (xs : List X) (y : Y) → Contains (map f xs) y → (x : X) × Contains xs x × (f x ≡ y)
from_map f [] y c = absurd (omega (arith, c.1))
from_map f (x ∷ xs) y (zero, small, is) = (x, (0, omega arith, refl), is)
from_map f (x ∷ xs) y (suc k, small, is) = let (z, there, same) = from_map f xs y (k, omega arith, is) in (z, later x z xs there, same)

-- ---- of a filter

pub in_filter : {X : Type 0} (p : X → Bool) (xs : List X) (x : X) → Contains xs x → p x ≡ true → Contains (filter p xs) x
in_filter p [] x c e = absurd (omega (arith, c.1))
in_filter p (y ∷ xs) x c e = stays (p y) refl (cases y x xs c) (λ there. in_filter p xs x there e)
  where
    stays : (b : Bool) → p y ≡ b → (x ≡ y) ⊎ Contains xs x → (Contains xs x → Contains (filter p xs) x) → Contains (cond b (y ∷ filter p xs) (filter p xs)) x
    stays true is (inl same) rest = (0, omega arith, sym same)
    stays false is (inl same) rest = absurd (true≢false (sym e ∙ ap p same ∙ is))
    stays true is (inr there) rest = later y x (filter p xs) (rest there)
    stays false is (inr there) rest = rest there

pub from_filter : {X : Type 0} (p : X → Bool) (xs : List X) (x : X) → Contains (filter p xs) x → Contains xs x × (p x ≡ true)
from_filter p xs x c = (
  All-contains (Contains xs) (filter p xs) x (All-filter p (Contains xs) xs (All-contains_itself xs)) c,
  All-contains (λ y. p y ≡ true) (filter p xs) x (filter_passes p xs) c,
)

-- ---- of joined lists

pub in_flat : {X Y : Type 0} (f : X → List Y) (xs : List X) (x : X) (y : Y) → Contains xs x → Contains (f x) y → Contains (flat_map f xs) y
in_flat f [] x y c there = absurd (omega (arith, c.1))
in_flat f (z ∷ xs) x y c there =
    elim (cases z x xs c) [
      | inl same ↦ Contains-append_left (f z) (flat_map f xs) y (subst (λ w. Contains (f w) y) same there)
      | inr rest ↦ Contains-append_right (f z) (flat_map f xs) y (in_flat f xs x y rest there)
    ]

pub from_flat : {X Y : Type 0} (f : X → List Y) (xs : List X) (y : Y) → Contains (flat_map f xs) y → (x : X) × Contains xs x × Contains (f x) y
from_flat f [] y c = absurd (omega (arith, c.1))
from_flat f (x ∷ xs) y c =
    elim (Contains-append_cases (f x) (flat_map f xs) y c) [
      | inl here ↦ (x, (0, omega arith, refl), here)
      | inr rest ↦ (let (z, there, in_it) = from_flat f xs y rest in (z, later x z xs there, in_it))
    ]
