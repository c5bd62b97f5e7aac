-- What is found by its place, and the records of a book as a path lists them.
use Rattle.std.proofs.Common.{◌≡◌, ℕ, zero, suc, ◌<◌, List, [], ◌∷◌, map, length, get_or, Option, Some, None, MatchOption, unwrap_or, refl, sym, ap, subst, ◌∙◌, arith}
use Rattle.std.specs.List.{slice_get}
use Rattle.std.specs.Option.{option_copied, option_map}
use Rattle.std.specs.Borrow.{Bor}
use Rattle.std.specs.Slice.{IsItemAt}
use Rattle.std.proofs.lemmas.Option.{slice_get-map, slice_get_past, unwrap_or-slice_get}
use Rattle.std.specs.List.Sorted.{IsStrictlyIncreasing}
use Rattle.rb_book.specs.Book.{Book, RecordAt, height_of, time_of, heights_and_times_of}
use Rattle.rb_book.specs.Invariant.{IsBook}
use Rattle.rb_book.specs.Shared.{Shared}
use Rattle.rb_scan.specs.Path.{heights_of as path_heights, times_of as path_times}
use Rattle.rb_core_state.specs.Room.{books_of}
use Rattle.rb_core_model.specs.Standing.{book_at, empty_book}

pub index_or-found : {X : Type 0} (xs : List X) (i : ℕ) (x d : X) → slice_get xs i ≡ Some x → get_or xs i d ≡ x
index_or-found xs i x d e = sym (unwrap_or-slice_get xs i d) ∙ ap (λ o. unwrap_or o d) e

pub index_or-none : {X : Type 0} (xs : List X) (i : ℕ) (d : X) → slice_get xs i ≡ None → get_or xs i d ≡ d
index_or-none xs i d e = sym (unwrap_or-slice_get xs i d) ∙ ap (λ o. unwrap_or o d) e

-- an element that is there is found
pub get-from_get_or : {X : Type 0} (xs : List X) (i : ℕ) (x : X) → i < length xs → x ≡ get_or xs i x → slice_get xs i ≡ Some x
get-from_get_or [] i x lt e = absurd (omega arith)
get-from_get_or (y ∷ xs) zero x lt e = ap Some (sym e)
get-from_get_or (y ∷ xs) (suc i) x lt e = get-from_get_or xs i x (omega arith) e

-- what a look-up tells
pub looked_up : {X : Type 0} (xs : List X) (i : ℕ) (r : Option (Bor X)) → IsItemAt xs i r → slice_get xs i ≡ option_copied r
looked_up xs i None at = slice_get_past xs i at.3
looked_up xs i (Some x) at = get-from_get_or xs i x.now at.3.0 at.1

-- the same, seen through a view of the elements
pub view_found : {X Y : Type 0} (f : X → Y) (xs : List X) (i : ℕ) (r : Option (Bor X)) → IsItemAt xs i r
    → MatchOption r (slice_get (map f xs) i ≡ None) (λ x. slice_get (map f xs) i ≡ Some (f x.now))
view_found f xs i None at = slice_get-map f xs i ∙ ap (option_map f) (looked_up xs i None at)
view_found f xs i (Some x) at = slice_get-map f xs i ∙ ap (option_map f) (looked_up xs i (Some x) at)

-- the book of a chain, by the books' owners
pub book_found : (books : List Shared) (chain : ℕ) (r : Option (Bor Shared)) → IsItemAt books chain r
    → MatchOption r (book_at (books_of books) chain ≡ empty_book 1) (λ s. book_at (books_of books) chain ≡ s.now.book)
book_found books chain None at = index_or-none (books_of books) chain (empty_book 1) (view_found (λ (x : Shared). x.book) books chain None at)
book_found books chain (Some s) at = index_or-found (books_of books) chain s.now.book (empty_book 1) (view_found (λ (x : Shared). x.book) books chain (Some s) at)

-- the heights and the times of a book's records rise
pub times_rise : (b : Book) (list : List (ℕ × ℕ)) → IsBook b → list ≡ heights_and_times_of b → IsStrictlyIncreasing (path_heights list) × IsStrictlyIncreasing (path_times list)
times_rise b list good e = (
  subst (λ (l : List (ℕ × ℕ)). IsStrictlyIncreasing (path_heights l)) (sym e) (subst IsStrictlyIncreasing (sym (heights_same b.records)) good.records.heights),
  subst (λ (l : List (ℕ × ℕ)). IsStrictlyIncreasing (path_times l)) (sym e) (subst IsStrictlyIncreasing (sym (times_same b.records)) good.records.times),
)
  where
    heights_same : (ks : List RecordAt) → map (λ (r : ℕ × ℕ). r.0) (map (λ (k : RecordAt). (height_of k, time_of k)) ks) ≡ map height_of ks
    heights_same [] = refl
    heights_same (k ∷ ks) = ap (λ hs. height_of k ∷ hs) (heights_same ks)

    times_same : (ks : List RecordAt) → map (λ (r : ℕ × ℕ). r.1) (map (λ (k : RecordAt). (height_of k, time_of k)) ks) ≡ map time_of ks
    times_same [] = refl
    times_same (k ∷ ks) = ap (λ ts. time_of k ∷ ts) (times_same ks)
