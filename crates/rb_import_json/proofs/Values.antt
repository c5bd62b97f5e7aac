-- The tests of `Values` decide the facts that they are named after.
use Rattle.std.proofs.Common.{◌≡◌, ℕ, ◌<◌, ◌≤◌, ◌^◌, ◌*◌, List, [], ◌∷◌, length, All, Bool, true, false, cond, ◌&&◌, nat_lt, nat_le, Result, Ok, Err, Option, Some, None, SomeIff, refl}
use Rattle.std.specs.Bool.{Decides}
use Rattle.std.specs.List.{list_all}
use Rattle.std.specs.Result.{OkIff, result_ok}
use Rattle.std.specs.Char.{digit_value}
use Rattle.std.specs.Str.Parse.{AllDigits, IsNumeral, digits_value, without_leading_plus}
use Rattle.std.proofs.lemmas.Bool.{false_from_ne_true, and_parts, and_from, le-leb, leb-true, lt-ltb, ltb-true}
use Rattle.std.proofs.lemmas.Bool.Decides.{Decides-by_and}
use Rattle.rb_base.specs.Amount.{IsHeight}
use Rattle.rb_base.specs.Identifier.{IsIdentifier, IsIdentifierByte}
use Rattle.rb_import_json.specs.Values.{is_numeral, number_below, number_of, height_of, identifier_of, is_identifier_byte}

-- a value that is made exactly where P holds is the value under a test that decides P
pub by_test : {A : Type 0} (r : Option A) (P : Type 0) (b : Bool) (v : A) → (P → b ≡ true) → (b ≡ true → P) → SomeIff r P v → r ≡ cond b (Some v) None
by_test None P b v to from h = rw (false_from_ne_true b (λ e. h (from e))) refl
by_test (Some x) P b v to from h = rw (to h.0, h.1) refl

all_digits-to : (ds : List ℕ) → AllDigits 10 ds → list_all (λ c. nat_lt (digit_value c) 10) ds ≡ true
all_digits-to [] h = refl
all_digits-to (c ∷ cs) h = and_from _ _ (lt-ltb (digit_value c) 10 h.0) (all_digits-to cs h.1)

all_digits-from : (ds : List ℕ) → list_all (λ c. nat_lt (digit_value c) 10) ds ≡ true → AllDigits 10 ds
all_digits-from [] h = tt
all_digits-from (c ∷ cs) h = let p = and_parts _ _ h in (ltb-true (digit_value c) 10 p.0, all_digits-from cs p.1)

to_numeral : (ds : List ℕ) (limit : ℕ) → IsNumeral 10 ds × (digits_value 10 ds < limit) → (is_numeral ds && nat_lt (digits_value 10 ds) limit) ≡ true
to_numeral ds limit h = and_from _ _ (and_from _ _ (lt-ltb 0 (length ds) h.0.0) (all_digits-to ds h.0.1)) (lt-ltb _ limit h.1)

from_numeral : (ds : List ℕ) (limit : ℕ) → (is_numeral ds && nat_lt (digits_value 10 ds) limit) ≡ true → IsNumeral 10 ds × (digits_value 10 ds < limit)
from_numeral ds limit h =
    let outer = and_parts _ _ h in
    let inner = and_parts _ _ outer.0 in
    ((ltb-true 0 (length ds) inner.0, all_digits-from ds inner.1), ltb-true _ limit outer.1)

pub some_iff : {A E : Type 0} (r : Result A E) (P : Type 0) (v : A) → OkIff r P v → SomeIff (result_ok r) P v
some_iff (Ok x) P v h = h
some_iff (Err e) P v h = h

pub parsed_number : {E : Type 0} (r : Result ℕ E) (ds : List ℕ) → OkIff r (IsNumeral 10 ds × (digits_value 10 ds < 2 ^ 64)) (digits_value 10 ds) → result_ok r ≡ number_below (2 ^ 64) ds
parsed_number r ds h = by_test (result_ok r) _ _ _ (to_numeral ds (2 ^ 64)) (from_numeral ds (2 ^ 64)) (some_iff r _ _ h)

pub made_height : (r : Option ℕ) (n : ℕ) → SomeIff r (IsHeight n) n → r ≡ height_of n
unfolding height_of
made_height r n h =
    by_test r _ _ _ (λ p. and_from _ _ (le-leb 1 n p.0) (lt-ltb n _ p.1)) (λ e. let p = and_parts _ _ e in (leb-true 1 n p.0, ltb-true n _ p.1)) h

bytes-Decides : (text : List ℕ) → Decides (list_all is_identifier_byte text) (All IsIdentifierByte text)
bytes-Decides = Decides-by_and is_identifier_byte IsIdentifierByte (list_all is_identifier_byte) (λ b. (λ h. h, λ h. h)) refl (λ _ _. refl)

pub made_identifier : (r : Option (List ℕ)) (text : List ℕ) → SomeIff r (IsIdentifier text) text → r ≡ identifier_of text
unfolding identifier_of
made_identifier r text h =
    by_test r _ _ _
    (λ p. and_from _ _ (and_from _ _ (le-leb 1 (length text) p.0) (le-leb (length text) 64 p.1)) ((bytes-Decides text).1 p.2))
    (λ e. let outer = and_parts _ _ e in let inner = and_parts _ _ outer.0 in (leb-true 1 (length text) inner.0, leb-true (length text) 64 inner.1, (bytes-Decides text).0 outer.1))
    h

pub ruleset heights = (made_height)

pub ruleset identifiers = (made_identifier)
