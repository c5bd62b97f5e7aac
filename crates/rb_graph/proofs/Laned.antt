-- Columns that more addresses join, and the sets that are numbered by them.
use Rattle.std.proofs.Common.{◌≡◌, ℕ, suc, ◌≤◌, Bool, true, false, cond, ◌||◌, List, [], ◌∷◌, ◌++◌, Option, Some, length, get_or, count_by, refl, sym, ap, subst, ◌∙◌, arith}
use Rattle.std.specs.Prelude.{unwrap_or}
use Rattle.std.specs.List.{insert, position, list_any}
use Rattle.std.specs.Option.{option_map}
use Rattle.std.specs.Str.{bytes_eq}
use Rattle.std.proofs.lemmas.Bool.{false≢true}
use Rattle.std.proofs.lemmas.List.{length-map}
use Rattle.std.proofs.lemmas.List.Sums.{count_by-le-length}
use Rattle.rb_valset.specs.Validator.{Member, address_of}
use Rattle.rb_valset.specs.ValidatorSet.{set_hash}
use Rattle.rb_book.specs.Book.{Book, is_before}
use Rattle.rb_book.specs.Intake.{with_set}
use Rattle.rb_book.proofs.Lists.{All-insert}
use Rattle.rb_lanes.specs.Lanes.{with_address}
use Rattle.rb_graph.specs.Numbering.{IsNumbered, AreNumbered, column_in, entries_of, Extends, AreLanesOf}
use Rattle.rb_graph.proofs.Inserted.{position-cons, map-insert, map-same}
use Rattle.rb_graph.proofs.Numbering.{numbered_still}

-- ---- more columns

position-more : {X : Type 0} (p : X → Bool) (xs ys : List X) → list_any p xs ≡ true → position p (xs ++ ys) ≡ position p xs
position-more p [] ys any = absurd (false≢true any)
position-more p (x ∷ xs) ys any = position-cons p x (xs ++ ys) ∙ by (p x) any (position-more p xs ys) ∙ sym (position-cons p x xs)
  where
    by : (b : Bool) → (b || list_any p xs) ≡ true → (list_any p xs ≡ true → position p (xs ++ ys) ≡ position p xs) → cond b (Some 0) (option_map suc (position p (xs ++ ys))) ≡ cond b (Some 0) (option_map suc (position p xs))
    by true q rest = refl
    by false q rest = ap (option_map suc) (rest q)

pub extends_none : (keys : List (List ℕ)) → Extends keys keys
extends_none keys = λ m is. (is, refl)

pub extends_again : (old mid new : List (List ℕ)) → Extends old mid → Extends mid new → Extends old new
extends_again old mid new first second = λ m is. (
  (second m (first m is).0).0,
  (second m (first m is).0).1 ∙ (first m is).1,
)

pub extends_intern : (old new : List (List ℕ)) (a : List ℕ) → new ≡ with_address old a → Extends old new
extends_intern old new a e = subst (Extends old) (sym e) (λ m is. (numbered_still old a m is, by m is (list_any (bytes_eq a) old)))
  where
    by : (m : Member) → IsNumbered old m → (b : Bool) → column_in (cond b old (old ++ a ∷ [])) m ≡ column_in old m
    by m is true = refl
    by m is false = ap (λ (o : Option ℕ). unwrap_or o 0) (position-more (bytes_eq (address_of m.key)) old (a ∷ []) is)

-- ---- the sets' powers stay

entries_stay : (old new : List (List ℕ)) (set : List Member) → Extends old new → AreNumbered old set → entries_of old set ≡ entries_of new set
entries_stay old new set more all =
    map-same (λ (m : Member). (column_in old m, m.power)) (λ (m : Member). (column_in new m, m.power)) set (λ k d lt.
    ap (λ (n : ℕ). (n, (get_or set k d).power)) (sym (more (get_or set k d) (all k d lt)).1))

lanes_stay : (old new : List (List ℕ)) (sets : List (List Member)) (tallies : List (List (ℕ × ℕ))) → Extends old new → AreLanesOf sets old tallies → AreLanesOf sets new tallies
lanes_stay old new sets tallies more are = (
  (λ k d lt j e below. (more (get_or (get_or sets k d) j e) (are.0 k d lt j e below)).0),
  are.1 ∙ map-same (entries_of old) (entries_of new) sets (λ k d lt. entries_stay old new (get_or sets k d) more (are.0 k d lt)),
)

-- ---- one more set

pub place_in_tallies : (b : Book) (set : List Member) (keys : List (List ℕ)) (tallies : List (List (ℕ × ℕ))) (place : ℕ) → AreLanesOf b.sets keys tallies → place ≡ count_by (is_before (set_hash set)) b.sets → place ≤ length tallies
place_in_tallies b set keys tallies place are there =
    omega (arith, there, count_by-le-length (is_before (set_hash set)) b.sets, ap (λ (l : List (List (ℕ × ℕ))). length l) are.1, length-map b.sets (entries_of keys))

pub lanes_with_set : (b : Book) (set : List Member) (old new : List (List ℕ)) (tallies : List (List (ℕ × ℕ))) (tally : List (ℕ × ℕ)) (place : ℕ) → AreLanesOf b.sets old tallies → Extends old new → AreNumbered new set → tally ≡ entries_of new set
    → place ≡ count_by (is_before (set_hash set)) b.sets → AreLanesOf (with_set b set).sets new (insert tallies place tally)
lanes_with_set b set old new tallies tally place are more numbered is there =
    let stay = lanes_stay old new b.sets tallies more are in (
      All-insert (AreNumbered new) b.sets (count_by (is_before (set_hash set)) b.sets) set numbered stay.0,
      (λ i. insert (stay.1 i) (there i) (is i)) ∙ sym (map-insert (entries_of new) b.sets (count_by (is_before (set_hash set)) b.sets) set),
    )
