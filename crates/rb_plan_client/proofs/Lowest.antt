-- The lowest record at a height or above it stands behind those that are below.
use Rattle.std.proofs.Common.{◌≡◌, ℕ, suc, ◌<◌, ◌≤◌, Bool, true, false, cond, nat_lt, nat_le, List, [], ◌∷◌, Option, Some, None, count_by, refl, sym, ap, ◌∙◌, inl, inr, arith}
use Rattle.std.specs.List.{find, slice_get, AllByRecursion}
use Rattle.std.specs.Option.{option_copied}
use Rattle.std.specs.Borrow.{Bor}
use Rattle.std.specs.Slice.{IsItemAt}
use Rattle.std.proofs.lemmas.Bool.{cases_lt, lt-ltb, le-ltb, le-leb, lt-leb}
use Rattle.std.proofs.lemmas.Option.{slice_get_past, slice_get-get_or}
use Rattle.rb_book.specs.Book.{Book, height_of, is_below}
use Rattle.rb_book.specs.Invariant.{IsBook}
use Rattle.rb_book.proofs.Rising.{Up, Up-from_increasing, count-step}

module _ {X : Type 0} (f : X → ℕ) (h : ℕ) where
  abbrev is_low : X → Bool
  is_low x = nat_lt (f x) h

  abbrev is_from : X → Bool
  is_from x = nat_le h (f x)

  none_low : (n : ℕ) (xs : List X) → h ≤ n → AllByRecursion (λ y. n < f y) xs → count_by is_low xs ≡ 0
  none_low n [] le up = refl
  none_low n (x ∷ xs) le up =
      let rest = none_low n xs le up.1 in
      let e = count-step is_low x xs false (le-ltb (f x) h (omega (arith, up.0))) in
      omega (arith, rest, e)

  pub lowest : (xs : List X) → Up (λ x y. f x < f y) xs → slice_get xs (count_by is_low xs) ≡ find is_from xs
  lowest [] up = refl
  lowest (x ∷ xs) up =
      elim (cases_lt (f x) h) [
        | inl below ↦
            (let e = count-step is_low x xs true (lt-ltb (f x) h below) in
            let one : count_by is_low (x ∷ xs) ≡ suc (count_by is_low xs) = omega (arith, e) in
            ap (slice_get (x ∷ xs)) one ∙ lowest xs up.1 ∙ ap (λ (b : Bool). cond b (Some x) (find is_from xs)) (sym (lt-leb h (f x) below)))
        | inr from ↦
            (let rest = none_low (f x) xs from up.0 in
            let e = count-step is_low x xs false (le-ltb (f x) h from) in
            let none : count_by is_low (x ∷ xs) ≡ 0 = omega (arith, rest, e) in
            ap (slice_get (x ∷ xs)) none ∙ ap (λ (b : Bool). cond b (Some x) (find is_from xs)) (sym (le-leb h (f x) from)))
      ]

pub lowest_from : (b : Book) (floor : ℕ) → IsBook b → slice_get b.records (count_by (is_below floor) b.records) ≡ find (λ k. nat_le floor (height_of k)) b.records
lowest_from b floor i = lowest height_of floor b.records (Up-from_increasing height_of b.records i.records.heights)

-- what a look-up by place lends
pub lent_at : {X : Type 0} (xs : List X) (i : ℕ) (r : Option (Bor X)) → IsItemAt xs i r → option_copied r ≡ slice_get xs i
lent_at xs i None at = sym (slice_get_past xs i at.3)
lent_at xs i (Some x) at = sym (slice_get-get_or xs i x.now at.3.0 ∙ ap Some (sym at.1))
