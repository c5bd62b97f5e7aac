-- The first characters of a text, as they may stand in quotes.
use Rattle.std.proofs.Common.{◌≡◌, ◌≢◌, ◌≤◌, ◌-◌, ◌++◌, ◌==◌, ℕ, zero, suc, List, [], ◌∷◌, Bool, true, false, cond, not, nat_le, Option, codes, All, arith, length, map, min, take, ap, sym, refl, ◌∙◌, subst, get_or}
use Rattle.std.proofs.lemmas.Bool.{and_parts, eqb-false, leb-true, true≢false}
use Rattle.std.proofs.Math.Nat.{min-le_left}
use Rattle.std.proofs.lemmas.List.{append_assoc, length-map, length-take, map-append, map_push}
use Rattle.std.proofs.lemmas.List.Elements.{All-from_get_or, All-map}
use Rattle.std.specs.Prelude.{Some, None, option_and_then, option_map, unwrap_or}
use Rattle.std.specs.Str.{chars}
use Rattle.std.proofs.lemmas.Str.{chars-nil}
use Rattle.serde_json.specs.Data.{Data}
use Rattle.rb_import_answers.specs.Answers.{json}
use Rattle.rb_import_answers.specs.Said.{IsPlain, after_colon, is_plain, plain, plain_text, said, said_type, says, says_type, type_of}

-- ---- each character is plain

not_true : (b : Bool) → not b ≡ true → b ≡ false
not_true false e = refl
not_true true e = absurd (true≢false (sym e))

other : (c d : ℕ) → not (c == d) ≡ true → c ≢ d
other c d e = eqb-false c d (not_true (c == d) e)

plain_at : (c : ℕ) (b : Bool) → is_plain c ≡ b → IsPlain (cond b c 63)
plain_at c true e =
    let last = and_parts _ (not (c == 92)) e in
    let quote = and_parts _ (not (c == 34)) last.0 in
    let range = and_parts (nat_le 32 c) (nat_le c 126) quote.0 in
    (leb-true 32 c range.0, leb-true c 126 range.1, other c 34 quote.1, other c 92 last.1)
plain_at c false e = (omega arith, omega arith, λ e. omega (arith, e), λ e. omega (arith, e))

pub one_plain : (c : ℕ) → IsPlain (plain c)
unfolding plain
one_plain c = plain_at c (is_plain c) refl

all_plain : (cs : List ℕ) → All IsPlain (map plain cs)
all_plain cs = All-map IsPlain plain cs (All-from_get_or (λ c. IsPlain (plain c)) cs 0 (λ i small. one_plain (get_or cs i 0)))

pub are_plain : (bytes cs : List ℕ) → bytes ≡ plain_text cs → All IsPlain bytes
unfolding plain_text
are_plain bytes cs e = subst (All IsPlain) (sym e) (all_plain (take 200 cs))

-- ---- there are at most 200

length_of : (cs : List ℕ) → length (plain_text cs) ≡ min 200 (length cs)
unfolding plain_text
length_of cs = length-map (take 200 cs) plain ∙ length-take 200 cs

pub are_few : (bytes cs : List ℕ) → bytes ≡ plain_text cs → length bytes ≤ 200
are_few bytes cs e = subst (λ n. n ≤ 200) (sym (ap length e ∙ length_of cs)) (min-le_left 200 (length cs))

-- ---- more of them

pub none_yet : [] ≡ plain_text []
unfolding plain_text
none_yet = refl

take_both : (n : ℕ) (xs ys : List ℕ) → take n (xs ++ ys) ≡ take n xs ++ take (n - length xs) ys
take_both zero xs ys = let e : zero ≡ zero - length xs = omega arith in ap (λ k. take k ys) e
take_both (suc n) [] ys = let e : suc n ≡ suc n - 0 = omega arith in ap (λ k. take k ys) e
take_both (suc n) (x ∷ xs) ys =
    let e : n - length xs ≡ suc n - suc (length xs) = omega arith in
    ap (λ l. x ∷ l) (take_both n xs ys) ∙ ap (λ k. x ∷ (take n xs ++ take k ys)) e

room_left : (n : ℕ) → 200 - min 200 n ≡ 200 - n
room_left n = omega arith

-- as many of the characters behind these as there is room for
pub continued : (before more : List ℕ) (room : ℕ) → room ≡ 200 - length (plain_text before)
    → plain_text before ++ map plain (take room more) ≡ plain_text (before ++ more)
unfolding plain_text
continued before more room e =
    let room_is : room ≡ 200 - length before = e ∙ ap (λ n. 200 - n) (length_of before) ∙ room_left (length before) in
    sym (map-append plain (take 200 before) (take room more))
    ∙ ap (map plain) (ap (λ n. take 200 before ++ take n more) room_is ∙ sym (take_both 200 before more))

-- one more behind those that are added
pub one_more : (start now added : List ℕ) (c p : ℕ) → now ≡ start ++ map plain added → p ≡ plain c
    → now ++ p ∷ [] ≡ start ++ map plain (added ++ c ∷ [])
one_more start now added c p e is =
    ap (λ l. l ++ p ∷ []) e
    ∙ append_assoc start (map plain added) (p ∷ [])
    ∙ ap (λ l. start ++ l) (ap (λ x. map plain added ++ x ∷ []) is ∙ sym (map_push plain added c))

-- all that there is room for is added
pub all_added : (start bytes before more added : List ℕ) (room : ℕ) → start ≡ plain_text before → room ≡ 200 - length start
    → added ≡ take room more → bytes ≡ start ++ map plain added → bytes ≡ plain_text (before ++ more)
all_added start bytes before more added room is left all e =
    e ∙ ap (λ l. l ++ map plain added) is ∙ ap (λ l. plain_text before ++ map plain l) all
    ∙ continued before more room (left ∙ ap (λ l. 200 - length l) is)

-- ---- behind a colon

empty_is_nothing : (before : List ℕ) → length (plain_text before) ≡ 0 → before ≡ []
empty_is_nothing [] e = refl
empty_is_nothing (x ∷ xs) e = let long : min 200 (suc (length xs)) ≡ 0 = sym (length_of (x ∷ xs)) ∙ e in absurd (omega (arith, long))

pub without_colon : (bytes before more : List ℕ) → bytes ≡ plain_text before → length bytes ≡ 0
    → before ++ more ≡ after_colon before more
without_colon bytes before more is e =
    subst (λ l. l ++ more ≡ after_colon l more) (sym (empty_is_nothing before (sym (ap length is) ∙ e))) refl

colon : chars (codes ": ") ≡ codes ": "
unfolding chars
colon = refl

pub behind_colon : (bytes before more : List ℕ) → bytes ≡ plain_text before → ¬ (length bytes ≡ 0)
    → before ++ chars (codes ": ") ++ more ≡ after_colon before more
behind_colon bytes [] more is some = absurd (some (ap length is ∙ length_of []))
behind_colon bytes (x ∷ xs) more is some = ap (λ l. (x ∷ xs) ++ l ++ more) colon

-- ---- what an answer's bytes say

pub said_is : (bytes text : List ℕ) (d : Option Data) → d ≡ json bytes → text ≡ plain_text (says d) → text ≡ plain_text (said bytes)
unfolding said
said_is bytes text d e is = is ∙ ap (λ o. plain_text (says o)) e

-- ---- what they say of a client's type

pub type_is : (bytes text characters : List ℕ) (d : Option Data) → d ≡ json bytes → characters ≡ says_type d → text ≡ plain_text characters
    → text ≡ plain_text (said_type bytes)
unfolding said_type
type_is bytes text characters d e says_so is = is ∙ ap plain_text (says_so ∙ ap says_type e)

-- an answer that names no type says nothing of it
pub no_type : (d : Option Data) → option_and_then type_of d ≡ None → chars [] ≡ says_type d
no_type (Some d) e = chars-nil ∙ sym (ap (λ o. unwrap_or (option_map chars o) []) e)
no_type None e = chars-nil
