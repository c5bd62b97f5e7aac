-- Lists that rise still rise with one more in its place.
use Rattle.std.proofs.Common.{◌≡◌, ℕ, zero, suc, ◌+◌, ◌<◌, ◌≤◌, Bool, true, false, cond, eqb, ltb, List, [], ◌∷◌, length, map, count_by, Some, None, refl, sym, ap, ◌∙◌, subst, inl, inr, arith}
use Rattle.std.specs.List.{find, list_any, insert, AllByRecursion}
use Rattle.std.specs.List.Sorted.{IsStrictlyIncreasing}
use Rattle.std.proofs.lemmas.Bool.{true≢false, ltb-true, ltb-false, or_parts, eq-eqb, cases_lt}
use Rattle.std.proofs.lemmas.List.{map-id}
use Rattle.std.proofs.lemmas.List.Sums.{sum_by-cons}
use Rattle.std.proofs.lemmas.Option.{none-some}
use Rattle.rb_book.specs.Intake.{placed}
use Rattle.rb_book.proofs.Rising.{Up, Up-from_increasing, increasing_from_up}
use Rattle.rb_core_model.specs.Standing.{with_height}

-- what holds of all holds with one more
pub all_insert : {X : Type 0} (P : X → Type 0) (xs : List X) (n : ℕ) (x : X) → P x → AllByRecursion P xs → AllByRecursion P (insert xs n x)
all_insert P xs zero x p all = (p, all)
all_insert P [] (suc n) x p all = (p, tt)
all_insert P (y ∷ xs) (suc n) x p all = (all.0, all_insert P xs n x p all.1)

none_passes : {X : Type 0} (t : X → Bool) (xs : List X) → find t xs ≡ None → AllByRecursion (λ y. t y ≡ false) xs
none_passes {X} t [] e = tt
none_passes {X} t (x ∷ xs) e = go (t x) refl e (none_passes t xs)
  where
    go : (b : Bool) → t x ≡ b → cond b (Some x) (find t xs) ≡ None → (find t xs ≡ None → AllByRecursion (λ y. t y ≡ false) xs) → AllByRecursion (λ y. t y ≡ false) (x ∷ xs)
    go true p f rest = absurd (none-some x (sym f))
    go false p f rest = (p, rest f)

none_any : {X : Type 0} (t : X → Bool) (xs : List X) → list_any t xs ≡ false → AllByRecursion (λ y. t y ≡ false) xs
none_any t [] e = tt
none_any t (x ∷ xs) e = ((or_parts (t x) (list_any t xs) e).0, none_any t xs (or_parts (t x) (list_any t xs) e).1)

-- ---- one more whose number none has

counted : {X : Type 0} (t : X → Bool) (x : X) (xs : List X) (b : Bool) → t x ≡ b → count_by t (x ∷ xs) ≡ cond b 1 0 + count_by t xs
counted t x xs b e = sum_by-cons (λ y. cond (t y) 1 0) x xs ∙ ap (λ (c : Bool). cond c 1 0 + count_by t xs) e

-- none of those above a number is below it
none_below : {X : Type 0} (f : X → ℕ) (n m : ℕ) (xs : List X) → n < m → AllByRecursion (λ y. m < f y) xs → (count_by (λ y. ltb (f y) n) xs ≡ 0) × AllByRecursion (λ y. n < f y) xs
none_below f n m [] lt all = (refl, tt)
none_below f n m (y ∷ ys) lt all =
    let rest = none_below f n m ys lt all.1 in
    let here = counted (λ z. ltb (f z) n) y ys false (not_below (ltb (f y) n) refl) in
    let above : m < f y = all.0 in
    ((let none = rest.0 in omega arith), (omega arith, rest.1))
  where
    not_below : (b : Bool) → ltb (f y) n ≡ b → b ≡ false
    not_below false e = refl
    not_below true e = let less = ltb-true (f y) n e in let above : m < f y = all.0 in absurd (omega arith)

placed_up : {X : Type 0} (f : X → ℕ) (xs : List X) (x : X) → Up (λ a b. f a < f b) xs → AllByRecursion (λ y. eqb (f y) (f x) ≡ false) xs → Up (λ a b. f a < f b) (insert xs (count_by (λ y. ltb (f y) (f x)) xs) x)
placed_up f [] x up other = (tt, tt)
placed_up {X} f (y ∷ ys) x up other = go (ltb (f y) (f x)) refl (placed_up f ys x up.1 other.1)
  where
    Rises : List X → Type 0
    Rises zs = Up (λ a b. f a < f b) zs

    go : (b : Bool) → ltb (f y) (f x) ≡ b → Rises (insert ys (count_by (λ z. ltb (f z) (f x)) ys) x) → Rises (insert (y ∷ ys) (count_by (λ z. ltb (f z) (f x)) (y ∷ ys)) x)
    go true e rest =
        let one : count_by (λ z. ltb (f z) (f x)) (y ∷ ys) ≡ suc (count_by (λ z. ltb (f z) (f x)) ys) = counted (λ z. ltb (f z) (f x)) y ys true e ∙ omega arith in
        subst (λ n. Rises (insert (y ∷ ys) n x)) (sym one) (all_insert (λ z. f y < f z) ys (count_by (λ z. ltb (f z) (f x)) ys) x (ltb-true (f y) (f x) e) up.0, rest)
    go false e rest =
        let above = apart (f y) (f x) (ltb-false (f y) (f x) e) other.0 in
        let none = none_below f (f x) (f y) ys above up.0 in
        let zero_is : count_by (λ z. ltb (f z) (f x)) (y ∷ ys) ≡ 0 = counted (λ z. ltb (f z) (f x)) y ys false e ∙ (let n = none.0 in omega arith) in
        subst (λ n. Rises (insert (y ∷ ys) n x)) (sym zero_is) ((above, none.1), up)
      where
        apart : (m n : ℕ) → n ≤ m → eqb m n ≡ false → n < m
        apart m n le ne = elim (cases_lt n m) [ inl less ↦ less | inr same ↦ absurd (true≢false (sym (eq-eqb m n (omega arith)) ∙ ne)) ]

pub placed_rises : {X : Type 0} (f : X → ℕ) (xs : List X) (x : X) → IsStrictlyIncreasing (map f xs) → AllByRecursion (λ y. eqb (f y) (f x) ≡ false) xs
    → IsStrictlyIncreasing (map f (placed (λ y. ltb (f y) (f x)) x xs))
placed_rises f xs x rising other = increasing_from_up f _ (placed_up f xs x (Up-from_increasing f xs rising) other)

pub height_rises : (height : ℕ) (hs : List ℕ) → IsStrictlyIncreasing hs → IsStrictlyIncreasing (with_height height hs)
height_rises height hs rising = go (list_any (λ h. eqb h height) hs) refl
  where
    go : (b : Bool) → list_any (λ h. eqb h height) hs ≡ b → IsStrictlyIncreasing (cond b hs (placed (λ h. ltb h height) height hs))
    go true e = rising
    go false e =
        subst IsStrictlyIncreasing (map-id (placed (λ h. ltb h height) height hs))
        (placed_rises (λ (h : ℕ). h) hs height (subst IsStrictlyIncreasing (sym (map-id hs)) rising) (none_any (λ h. eqb h height) hs e))

pub new_rises : {X : Type 0} (f : X → ℕ) (xs : List X) (x : X) → IsStrictlyIncreasing (map f xs) → find (λ y. eqb (f y) (f x)) xs ≡ None → IsStrictlyIncreasing (map f (placed (λ y. ltb (f y) (f x)) x xs))
new_rises f xs x rising new = placed_rises f xs x rising (none_passes (λ y. eqb (f y) (f x)) xs new)

pub all_height : (P : ℕ → Type 0) (height : ℕ) (hs : List ℕ) → P height → AllByRecursion P hs → AllByRecursion P (with_height height hs)
all_height P height hs p all = go (list_any (λ h. eqb h height) hs)
  where
    go : (b : Bool) → AllByRecursion P (cond b hs (placed (λ h. ltb h height) height hs))
    go true = all
    go false = all_insert P hs _ height p all
