-- Lists by their places, seen through a view of their elements.
use Rattle.std.proofs.Common.{◌≡◌, ℕ, zero, suc, ◌<◌, ◌-◌, ◌==◌, nat_lt, List, [], ◌∷◌, Some, Ok, Err, IsSomeAnd, length, map, get_or, set, refl, sym, ap, ◌∙◌, subst, inl, inr, arith}
use Rattle.std.specs.List.{slice_get}
use Rattle.std.specs.Option.{option_map_or}
use Rattle.std.proofs.lemmas.List.{get_or-set_same, map-set, length-set, length-map, get_or-map, get_or_default}
use Rattle.std.proofs.Math.Seq.{map-set_same}
use Rattle.std.specs.Cmp.{nat_cmp_is}
use Rattle.std.specs.List.Sorted.{IsStrictlyIncreasing}
use Rattle.std.specs.Ordering.{nat_cmp}
use Rattle.std.specs.declared.cmp.Ordering.TheVariants.{Less, Equal}
use Rattle.std.proofs.lemmas.Bool.{cases_lt}
use Rattle.std.proofs.lemmas.Option.{none-some, same_Some, slice_get-get_or}
use Rattle.rb_book.specs.Search.{IsKnownPlace, IsPlace}
use Rattle.rb_book.proofs.Places.{IsPlace-from_number_search}
use Rattle.rb_book.proofs.Rising.{pairs_from_up, Up-from_increasing}
use Rattle.rb_core_model.specs.Standing.{changed_at}

-- what is at a place is there, whatever stands for one past the end
pub at_place : {X : Type 0} (xs : List X) (i : ℕ) (x : X) → slice_get xs i ≡ Some x → (i < length xs) × ((d : X) → get_or xs i d ≡ x)
at_place [] i x e = absurd (none-some x e)
at_place (y ∷ xs) zero x e = (omega arith, λ d. same_Some y x e)
at_place (y ∷ xs) (suc i) x e = let rest = at_place xs i x e in (omega (arith, rest.0), rest.1)

-- the element that is read at a place
pub found : {X : Type 0} (xs : List X) (i : ℕ) (x : X) → i < length xs → x ≡ get_or xs i x → slice_get xs i ≡ Some x
found xs i x lt at = slice_get-get_or xs i x lt ∙ ap (λ y. Some y) (sym at)

pub found_seen : {X Y : Type 0} (view : X → Y) (xs : List X) (i : ℕ) (x : X) → i < length xs → x ≡ get_or xs i x → slice_get (map view xs) i ≡ Some (view x)
found_seen view xs i x lt at =
    let long : i < length (map view xs) = subst (λ n. i < n) (sym (length-map xs view)) lt in
    slice_get-get_or (map view xs) i (view x) long ∙ ap (λ y. Some y) (get_or-map view xs i x (view x) lt ∙ ap view (sym at))

-- a fact about it
pub of_found : {X : Type 0} (P : X → Type 0) (xs : List X) (i : ℕ) (x : X) → i < length xs → x ≡ get_or xs i x → IsSomeAnd (slice_get xs i) P → P x
of_found P xs i x lt at h = subst (λ o. IsSomeAnd o P) (found xs i x lt at) h

pub for_found : {X : Type 0} (P : X → Type 0) (xs : List X) (i : ℕ) (x : X) → i < length xs → P x → IsSomeAnd (slice_get (set xs i x) i) P
for_found P xs i x lt p =
    let long : i < length (set xs i x) = subst (λ n. i < n) (sym (length-set xs i x)) lt in
    subst (λ o. IsSomeAnd o P) (sym (found (set xs i x) i x long (sym (get_or-set_same xs i x x lt)))) p

-- what a change at a place does to the view
pub seen_changed : {X Y : Type 0} (view : X → Y) (f : Y → Y) (xs : List X) (i : ℕ) (x y : X) → i < length xs → x ≡ get_or xs i x → view y ≡ f (view x) → map view (set xs i y) ≡ changed_at f (map view xs) i
seen_changed view f xs i x y lt at e =
    map-set view xs i y ∙ ap (set (map view xs) i) e
    ∙ sym (ap (λ o. option_map_or (λ z. set (map view xs) i (f z)) o (map view xs)) (found_seen view xs i x lt at))

pub seen_same : {X Y : Type 0} (view : X → Y) (xs : List X) (i : ℕ) (x y : X) → i < length xs → x ≡ get_or xs i x → view y ≡ view x → map view (set xs i y) ≡ map view xs
seen_same view xs i x y lt at e = map-set_same view xs i y x (e ∙ ap view at)

-- what was true at a place stays true where another element takes its place
pub kept_at : {X : Type 0} (P : X → Type 0) (xs : List X) (i : ℕ) (x y : X) → x ≡ get_or xs i x → (P x → P y) → (j : ℕ) → IsSomeAnd (slice_get xs j) P → IsSomeAnd (slice_get (set xs i y) j) P
kept_at {X = X} P xs i x y at keeps = go xs i (λ p. keeps (subst P (sym at) p))
  where
    go : (zs : List X) (i : ℕ) → (P (get_or zs i x) → P y) → (j : ℕ) → IsSomeAnd (slice_get zs j) P → IsSomeAnd (slice_get (set zs i y) j) P
    go [] i f j h = absurd h
    go (z ∷ zs) zero f zero h = f h
    go (z ∷ zs) zero f (suc j) h = h
    go (z ∷ zs) (suc i) f zero h = h
    go (z ∷ zs) (suc i) f (suc j) h = go zs i f j h

-- the view of the element at a place, whatever stands for one past the end
pub there : {X Y : Type 0} (view : X → Y) (xs : List X) (i : ℕ) (x : X) (d : Y) → i < length xs → x ≡ get_or xs i x → get_or (map view xs) i d ≡ view x
there view xs i x d lt at =
    let long : i < length (map view xs) = subst (λ n. i < n) (sym (length-map xs view)) lt in
    get_or_default (map view xs) i d (view x) long ∙ get_or-map view xs i x (view x) lt ∙ ap view (sym at)

-- what a change of it makes of the views
pub seen_set : {X Y : Type 0} (view : X → Y) (f : Y → Y) (xs : List X) (i : ℕ) (x y : X) (d : Y) → i < length xs → x ≡ get_or xs i x → view y ≡ f (view x) → map view (set xs i y) ≡ set (map view xs) i (f (get_or (map view xs) i d))
seen_set view f xs i x y d lt at e = map-set view xs i y ∙ ap (set (map view xs) i) (e ∙ ap f (sym (there view xs i x d lt at)))

-- where keys rise, the element with a key stands where it was found
pub known_here : {X : Type 0} (key : X → ℕ) (k : ℕ) (xs : List X) (i : ℕ) (x : X) → IsStrictlyIncreasing (map key xs) → slice_get xs i ≡ Some x → key x ≡ k
    → IsKnownPlace (λ y. key y == k) xs i
known_here {X} key k xs i x up at same =
    let p = at_place xs i x at in
    IsPlace-from_number_search key k xs (Ok i) up p.0 (λ d. ap (λ (y : X). nat_cmp (key y) k) (p.1 d) ∙ ap (λ n. nat_cmp n k) same ∙ sym (nat_cmp_is k k Equal refl))

-- where keys rise, and the last one is lower than a number, the number belongs at the end
pub new_last : {X : Type 0} (key : X → ℕ) (h : ℕ) (xs : List X) (x : X) → IsStrictlyIncreasing (map key xs) → slice_get xs (length xs - 1) ≡ Some x → key x < h
    → IsPlace (λ y. key y == h) (λ y. nat_lt (key y) h) xs (Err (length xs))
new_last {X} key h xs x up at low =
    IsPlace-from_number_search key h xs (Err (length xs)) up (omega arith) (λ rise. (λ k d le lt. sym (nat_cmp_is (key (get_or xs k d)) h Less (below k d lt)), λ k d le lt. absurd (omega arith)))
  where
    last : (d : X) → key (get_or xs (length xs - 1) d) ≡ key x
    last d = ap key ((at_place xs (length xs - 1) x at).1 d)

    below : (k : ℕ) (d : X) → k < length xs → key (get_or xs k d) < h
    below k d lt =
        elim (cases_lt k (length xs - 1)) [
          | inl less ↦ (let next = pairs_from_up (λ (y z : X). key y < key z) xs (Up-from_increasing key xs up) k (length xs - 1) d less (omega (arith, lt)) in omega (arith, next, last d, low))
          | inr more ↦ (let e : k ≡ length xs - 1 = omega (arith, more, lt) in let same = ap (λ (n : ℕ). key (get_or xs n d)) e in omega (arith, same, last d, low))
        ]
