-- The last elements of a list, and of what is left of it.
use Rattle.std.proofs.Common.{◌≡◌, ℕ, suc, ◌+◌, ◌-◌, ◌<◌, ◌≤◌, ◌⊎◌, max, List, [], ◌∷◌, ◌++◌, length, map, get_or, Option, Some, None, inl, inr, refl, sym, ap, ◌∙◌, subst, arith}
use Rattle.std.specs.List.{All, AllByRecursion, Contains, flat_map, fold, reduce, slice_get}
use Rattle.std.specs.List.Sorted.{IsStrictlyIncreasing}
use Rattle.std.specs.Option.{IfSome, option_and_then}
use Rattle.std.proofs.lemmas.Bool.{cases_eq}
use Rattle.std.proofs.lemmas.List.{length-append, nil_from_length}
use Rattle.std.proofs.lemmas.List.Kept.{AllPairs-from_increasing}
use Rattle.std.proofs.lemmas.Option.{get_or_from_slice_get, slice_get_within, slice_get-get_or}
use Rattle.rb_super.specs.Left.{IsLeft}

pub and_then_same : {A B : Type 0} (o p : Option A) (f g : A → Option B) → o ≡ p → ((x : A) → p ≡ Some x → f x ≡ g x) → option_and_then f o ≡ option_and_then g p
and_then_same o None f g e same = ap (option_and_then f) e
and_then_same o (Some x) f g e same = ap (option_and_then f) e ∙ same x refl

get_behind : {X : Type 0} (gone ys : List X) (k : ℕ) → slice_get (gone ++ ys) (length gone + k) ≡ slice_get ys k
get_behind [] ys k = (let e : 0 + k ≡ k = omega arith in ap (slice_get ys) e)
get_behind (x ∷ gone) ys k = (let e : length (x ∷ gone) + k ≡ suc (length gone + k) = omega arith in ap (slice_get (x ∷ gone ++ ys)) e ∙ get_behind gone ys k)

pub last_left : {X : Type 0} (number : X → ℕ) (m : ℕ) (xs ys : List X) → IsLeft number m xs ys → (xs ≡ []) ⊎ (0 < length ys) → slice_get xs (length xs - 1) ≡ slice_get ys (length ys - 1)
last_left {X} number m xs ys left some = go some
  where
    lengths : length xs ≡ length left.gone + length ys
    lengths = ap length left.parts ∙ length-append left.gone ys

    go : (xs ≡ []) ⊎ (0 < length ys) → slice_get xs (length xs - 1) ≡ slice_get ys (length ys - 1)
    go (inl none) =
        let e = lengths in
        let zero_long : length xs ≡ 0 = ap length none in
        let none_left : ys ≡ [] = nil_from_length ys (omega arith) in
        ap (λ (zs : List X). slice_get zs (length zs - 1)) (none ∙ sym none_left)
    go (inr lt) =
        let e = lengths in
        let place : length xs - 1 ≡ length left.gone + (length ys - 1) = omega arith in
        ap (slice_get xs) place ∙ ap (λ zs. slice_get zs (length left.gone + (length ys - 1))) left.parts ∙ get_behind left.gone ys (length ys - 1)

-- what holds of all holds at a place
pub at_place : {X : Type 0} (P : X → Type 0) (xs : List X) (k : ℕ) (x : X) → All P xs → slice_get xs k ≡ Some x → P x
at_place P xs k x all e = subst P (get_or_from_slice_get xs k x x e) (all k x (slice_get_within xs k x e))

-- the last of rising numbers is at or above each
pub last_of : (xs : List ℕ) (h : ℕ) → IsStrictlyIncreasing xs → Contains xs h → (g : ℕ) × (slice_get xs (length xs - 1) ≡ Some g) × (h ≤ g)
last_of xs h rising (k, lt, at) =
    let last = length xs - 1 in
    let l : last < length xs = omega arith in
    (get_or xs last h, slice_get-get_or xs last h l, go (cases_eq k last))
  where
    go : (k ≡ length xs - 1) ⊎ (k ≡ length xs - 1 → ⊥) → h ≤ get_or xs (length xs - 1) h
    go (inl e) = (let same : get_or xs (length xs - 1) h ≡ h = ap (λ n. get_or xs n h) (sym e) ∙ at in omega arith)
    go (inr other) =
        let before : k < length xs - 1 = omega arith in
        let less : get_or xs k h < get_or xs (length xs - 1) h = AllPairs-from_increasing xs rising k (length xs - 1) h before (omega arith) in
        omega arith

-- ---- functions that agree on a list

map_each : {X Y : Type 0} (f g : X → Y) (xs : List X) → AllByRecursion (λ x. f x ≡ g x) xs → map f xs ≡ map g xs
map_each f g [] all = refl
map_each f g (x ∷ xs) all = λ i. all.0 i ∷ map_each f g xs all.1 i

pub flat_map_each : {X Y : Type 0} (f g : X → List Y) (xs : List X) → AllByRecursion (λ x. f x ≡ g x) xs → flat_map f xs ≡ flat_map g xs
flat_map_each f g [] all = refl
flat_map_each f g (x ∷ xs) all = λ i. all.0 i ++ flat_map_each f g xs all.1 i

pub map_same : {X Y : Type 0} (f g : X → Y) (xs : List X) → AllByRecursion (λ x. f x ≡ g x) xs → map f xs ≡ map g xs
map_same f g xs all = map_each f g xs all

-- ---- the greatest of numbers that are not below

folded : (m a : ℕ) (xs : List ℕ) → m ≤ a → m ≤ fold max a xs
folded m a [] le = le
folded m a (x ∷ xs) le = folded m (max a x) xs (omega arith)

pub greatest_above : (m : ℕ) (xs : List ℕ) → AllByRecursion (λ x. m ≤ x) xs → IfSome (reduce max xs) (λ x. m ≤ x)
greatest_above m [] all = tt
greatest_above m (x ∷ xs) all = folded m x xs all.0
