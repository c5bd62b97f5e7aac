-- There is a column for each address of a book.
use Rattle.std.proofs.Common.{◌≡◌, ℕ, zero, suc, ◌<◌, ◌≤◌, Bool, true, false, cond, ◌||◌, List, [], ◌∷◌, ◌++◌, length, get_or, refl, sym, ap, subst, ◌∙◌, inl, inr, arith}
use Rattle.std.specs.List.{list_any, IsDistinct}
use Rattle.std.specs.Set.{unique_keys}
use Rattle.std.specs.Str.{bytes_eq}
use Rattle.std.proofs.lemmas.Bool.{cases_Bool, false≢true}
use Rattle.std.proofs.lemmas.List.Folds.{list_any-append}
use Rattle.std.proofs.lemmas.Map.Made.{length-le_from_is_member}
use Rattle.std.proofs.lemmas.Cmp.{nat_list_eq_equiv}
use Rattle.std.proofs.lemmas.Slice.Eq.{bytes_eq-Decides}
use Rattle.rb_valset.specs.Validator.{Member, address_of, has_address}
use Rattle.rb_book.specs.Book.{is_known_address, addresses_of, address_count}
use Rattle.rb_book.proofs.AddressCount.{known-addresses, member-unique, absent_all}
use Rattle.rb_lanes.specs.Lanes.{max_columns, with_address}
use Rattle.rb_lanes.specs.Refusal.{IsFull}

abbrev Address : Type 0
Address = List ℕ

-- different addresses, each a member's of some set
pub record AreOfSets (sets : List (List Member)) (keys : List Address) : Type 0 where
  pub distinct : IsDistinct bytes_eq keys
  pub known : (a : Address) → list_any (bytes_eq a) keys ≡ true → is_known_address sets a ≡ true

either : (a b : Bool) → (a || b) ≡ true → a ≡ false → b ≡ true
either true b e none = absurd (false≢true (sym none))
either false b e none = e

or_first : (a b : Bool) → a ≡ true → (a || b) ≡ true
or_first a b e = ap (λ (x : Bool). x || b) e

-- so they are at most as many as the sets have
few-of_sets : (sets : List (List Member)) (keys : List Address) → AreOfSets sets keys → length keys ≤ address_count sets
few-of_sets sets keys of_sets =
    length-le_from_is_member nat_list_eq_equiv keys (unique_keys bytes_eq (addresses_of sets)) of_sets.distinct
    (λ q is. member-unique (addresses_of sets) q ∙ known-addresses sets q ∙ of_sets.known q is)

-- ---- one more

distinct-cons : (a : Address) (ks : List Address) → list_any (bytes_eq a) ks ≡ false → IsDistinct bytes_eq ks → IsDistinct bytes_eq (a ∷ ks)
unfolding IsDistinct
distinct-cons a ks absent distinct = (absent_all a ks absent, distinct)

-- an address is known where one that is equal to it is
known_as : (sets : List (List Member)) (a q : Address) → bytes_eq q a ≡ true → is_known_address sets a ≡ true → is_known_address sets q ≡ true
known_as sets a q same is = subst (λ (x : Address). is_known_address sets x ≡ true) (sym ((bytes_eq-Decides q a).0 same)) is

with_one : (sets : List (List Member)) (keys : List Address) (a : Address) → AreOfSets sets keys → list_any (bytes_eq a) keys ≡ false → is_known_address sets a ≡ true → AreOfSets sets (a ∷ keys)
with_one sets keys a of_sets absent is = record {
  distinct = distinct-cons a keys absent of_sets.distinct;
  known = λ q e. elim (cases_Bool (bytes_eq q a)) [
    | inl same ↦ known_as sets a q same is
    | inr other ↦ of_sets.known q (either (bytes_eq q a) (list_any (bytes_eq q) keys) e other)
  ];
}

-- an address of the sets has a column, or there is room for it
pub has_room : (sets : List (List Member)) (keys : List Address) (a : Address) → AreOfSets sets keys → is_known_address sets a ≡ true → address_count sets ≤ max_columns → ¬ (IsFull keys a)
has_room sets keys a of_sets is few = λ full. omega (arith, few-of_sets sets (a ∷ keys) (with_one sets keys a of_sets full.1 is), few, full.0)

-- ---- what numbering keeps

pub none-of_sets : (sets : List (List Member)) (keys : List Address) → keys ≡ [] → AreOfSets sets keys
unfolding IsDistinct
none-of_sets sets keys e = subst (AreOfSets sets) (sym e) (record { distinct = tt; known = λ a is. absurd (false≢true is) })

pub interned-of_sets : (sets : List (List Member)) (keys new : List Address) (a : Address) → new ≡ with_address keys a → IsDistinct bytes_eq new → is_known_address sets a ≡ true → AreOfSets sets keys → AreOfSets sets new
interned-of_sets sets keys new a e distinct is of_sets = record {
  distinct = distinct;
  known = λ q member. by (list_any (bytes_eq a) keys) q (subst (λ (ks : List Address). list_any (bytes_eq q) ks ≡ true) e member);
}
  where
    at_end : (q : Address) → list_any (bytes_eq q) (keys ++ a ∷ []) ≡ true → is_known_address sets q ≡ true
    at_end q h = elim (cases_Bool (list_any (bytes_eq q) keys)) [
      | inl before ↦ of_sets.known q before
      | inr absent ↦ known_as sets a q (one (bytes_eq q a) (either (list_any (bytes_eq q) keys) (bytes_eq q a || false) (sym (list_any-append (bytes_eq q) keys (a ∷ [])) ∙ h) absent)) is
    ]
      where
        one : (b : Bool) → (b || false) ≡ true → b ≡ true
        one true h = refl
        one false h = h

    by : (b : Bool) (q : Address) → list_any (bytes_eq q) (cond b keys (keys ++ a ∷ [])) ≡ true → is_known_address sets q ≡ true
    by true q h = of_sets.known q h
    by false q h = at_end q h

-- ---- a member's address is one of the sets'

any_at : {X : Type 0} (p : X → Bool) (xs : List X) (i : ℕ) (d : X) → i < length xs → p (get_or xs i d) ≡ true → list_any p xs ≡ true
any_at p [] i d lt is = absurd (omega arith)
any_at p (x ∷ xs) zero d lt is = or_first (p x) (list_any p xs) is
any_at p (x ∷ xs) (suc i) d lt is = or_second (p x) (list_any p xs) (any_at p xs i d (omega arith) is)
  where
    or_second : (a b : Bool) → b ≡ true → (a || b) ≡ true
    or_second true b e = refl
    or_second false b e = e

pub member_known : (sets : List (List Member)) (i : ℕ) (set members : List Member) (j : ℕ) (m : Member) (a : Address) → i < length sets → set ≡ get_or sets i set → members ≡ set → j < length members → m ≡ get_or members j m → a ≡ address_of m.key → is_known_address sets a ≡ true
member_known sets i set members j m a outer set_is same inner member_is a_is =
    let key : Address = address_of m.key in
    let among : list_any (has_address key) members ≡ true = any_at (has_address key) members j m inner (subst (λ (x : Member). has_address key x ≡ true) member_is ((bytes_eq-Decides key key).1 refl)) in
    let here : list_any (has_address key) (get_or sets i set) ≡ true = subst (λ (s : List Member). list_any (has_address key) s ≡ true) (same ∙ set_is) among in
    subst (λ (x : Address). is_known_address sets x ≡ true) (sym a_is) (any_at (list_any (has_address key)) sets i set outer here)
