-- Documents as they came, in parts of a journal.
use Rattle.std.proofs.Common.{◌≡◌, ℕ, zero, suc, ◌+◌, ◌*◌, ◌-◌, ◌<◌, ◌/◌, ◌%◌, ◌==◌, Bool, true, false, not, List, [], ◌∷◌, ◌++◌, length, get_or, take, drop, slice_index, Some, Result, Ok, Err, IfOk, Vec, Global, refl, sym, ap, ◌∙◌, inl, inr, add-one, drop-cons, append_assoc, length-append, arith}
use Rattle.std.proofs.lemmas.Bool.{cases_Bool, and_parts}
use Rattle.std.proofs.lemmas.List.{append-nil}
use Rattle.std.specs.Cmp.Lexicographic.{same_text}
use Rattle.std.specs.List.{list_all}
use Rattle.std.proofs.Math.Seq.{take-append_seam}
use Rattle.std.specs.Str.{bytes_eq}
use Rattle.hex.specs.Hex.{encode_with, encode_lower, lower_digits}
use Rattle.hex.proofs.HexLemmas.{length-encode_with}
use Rattle.sha2.specs.Sha256.{sha256}
use Rattle.sha2.proofs.Facts256.{length-sha256}
use Rattle.rb_journal.specs.Parts.{mark, closing, closing_length, end_from, part_end, IsWhole}
use Rattle.rb_journal.specs.Verbatim.{bar, barred, unbarred, verbatim}
use Rattle.rb_journal.proofs.Closings.{length-closing}

next : (bs : List ℕ) (i : ℕ) → i < length bs → drop i bs ≡ get_or bs i 0 ∷ drop (i + 1) bs
next bs i within = rw add-one (drop-cons bs i 0 within)

-- ---- bars

pub unbarred-barred : (bs : List ℕ) → unbarred false (barred bs) ≡ bs
unbarred-barred [] = refl
unbarred-barred (b ∷ bs) =
    elim (cases_Bool (b == 10)) [
      | inl feed ↦ rw (feed, feed) (ap (λ (xs : List ℕ). b ∷ xs) (unbarred-barred bs))
      | inr other ↦ rw (other, other) (ap (λ (xs : List ℕ). b ∷ xs) (unbarred-barred bs))
    ]

-- one more byte of a part was gone over
pub skip_byte : (out all bs : List ℕ) (i : ℕ) (behind_feed : Bool) → i < length bs → behind_feed ≡ true → all ≡ out ++ unbarred behind_feed (drop i bs)
    → all ≡ out ++ unbarred false (drop (i + 1) bs)
skip_byte out all bs i behind_feed within is h =
    h ∙ ap (λ (b : Bool). out ++ unbarred b (drop i bs)) is ∙ ap (λ (xs : List ℕ). out ++ unbarred true xs) (next bs i within)

pub keep_byte : (out all bs : List ℕ) (i : ℕ) (behind_feed : Bool) → i < length bs → behind_feed ≡ false → all ≡ out ++ unbarred behind_feed (drop i bs)
    → all ≡ (out ++ get_or bs i 0 ∷ []) ++ unbarred (get_or bs i 0 == 10) (drop (i + 1) bs)
keep_byte out all bs i behind_feed within is h =
    let b = get_or bs i 0 in
    h ∙ ap (λ (x : Bool). out ++ unbarred x (drop i bs)) is ∙ ap (λ (xs : List ℕ). out ++ unbarred false xs) (next bs i within)
    ∙ sym (append_assoc out (b ∷ []) (unbarred (b == 10) (drop (i + 1) bs)))

-- ---- where such a part ends

-- no line of it is the mark
lines : (count : ℕ) (line bs more : List ℕ)
    → end_from count (bar ∷ line) (barred bs ++ 10 ∷ more) ≡ end_from (count + length (barred bs) + 1) [] more
lines count line [] more = ap (λ (n : ℕ). end_from n [] more) (omega arith)
lines count line (b ∷ bs) more =
    elim (cases_Bool (b == 10)) [
      | inl feed ↦ rw (feed, feed) (lines (count + 1 + 1) [] bs more ∙ ap (λ (n : ℕ). end_from n [] more) (omega arith))
      | inr other ↦ rw (other, other) (lines (count + 1) (line ++ b ∷ []) bs more ∙ ap (λ (n : ℕ). end_from n [] more) (omega arith))
    ]

not-true : (b : Bool) → not b ≡ true → b ≡ false
not-true true h = sym h
not-true false h = refl

-- a digit is no line feed
no_feed : (digits : List ℕ) (n : ℕ) → list_all (λ d. not (d == 10)) digits ≡ true → (slice_index digits n == 10) ≡ false
no_feed [] n h = refl
no_feed (d ∷ ds) zero h = not-true (d == 10) (and_parts (not (d == 10)) (list_all (λ d. not (d == 10)) ds) h).0
no_feed (d ∷ ds) (suc n) h = no_feed ds n (and_parts (not (d == 10)) (list_all (λ d. not (d == 10)) ds) h).1

digit : (n : ℕ) → (slice_index lower_digits n == 10) ≡ false
digit n = no_feed lower_digits n refl

-- digits stand on one line
digits_on : (count : ℕ) (line xs more : List ℕ)
    → end_from count line (encode_lower xs ++ more) ≡ end_from (count + length (encode_lower xs)) (line ++ encode_lower xs) more
unfolding encode_with
digits_on count line [] more =
    ap (λ (n : ℕ). end_from n line more) (omega arith)
    ∙ ap (λ (l : List ℕ). end_from (count + length (encode_lower [])) l more) (sym (append-nil line))
digits_on count line (x ∷ xs) more =
    let high = slice_index lower_digits (x / 16) in
    let low = slice_index lower_digits (x % 16) in
    rw (digit (x / 16), digit (x % 16))
    (digits_on (count + 1 + 1) ((line ++ high ∷ []) ++ low ∷ []) xs more
    ∙ ap (λ (n : ℕ). end_from n (((line ++ high ∷ []) ++ low ∷ []) ++ encode_lower xs) more) (omega arith)
    ∙ ap (λ (l : List ℕ). end_from (count + suc (suc (length (encode_lower xs)))) l more)
    (append_assoc (line ++ high ∷ []) (low ∷ []) (encode_lower xs) ∙ append_assoc line (high ∷ []) (low ∷ encode_lower xs)))

-- a line with another length isn't the mark
other_length : (line : List ℕ) → (length line ≡ 6 → ⊥) → bytes_eq line mark ≡ false
other_length line other =
    elim (cases_Bool (bytes_eq line mark)) [
      | inl same ↦ absurd (other (ap length (same_text line mark (sym same))))
      | inr is ↦ is
    ]

mark-ends : (count : ℕ) → end_from count [] mark ≡ Some (count + 6)
mark-ends count = ap Some (omega arith)

closing-ends : (digests : Bool) (bytes : List ℕ) (count : ℕ) → end_from count [] (closing digests bytes) ≡ Some (count + closing_length digests)
closing-ends true bytes count =
    let hex = encode_lower (sha256 bytes) in
    let line = (35 ∷ 32 ∷ []) ++ hex in
    let size : length hex ≡ 64 = length-encode_with lower_digits (sha256 bytes) ∙ ap (λ (n : ℕ). 2 * n) (length-sha256 bytes) in
    let long = length-append line (10 ∷ []) in
    let is_other : bytes_eq (line ++ 10 ∷ []) mark ≡ false = other_length (line ++ 10 ∷ []) (λ e. omega (arith, e)) in
    let at_end : end_from (count + 1 + 1 + length hex) line (10 ∷ mark) ≡ Some (count + 1 + 1 + length hex + 1 + 6) =
    rw is_other (mark-ends (count + 1 + 1 + length hex + 1)) in
    digits_on (count + 1 + 1) (35 ∷ 32 ∷ []) (sha256 bytes) (10 ∷ mark) ∙ at_end ∙ ap Some (omega arith)
closing-ends false bytes count = mark-ends count

pub verbatim_whole : (digests : Bool) (bytes : List ℕ) → IsWhole (verbatim bytes ++ closing digests (verbatim bytes))
unfolding part_end
verbatim_whole digests bytes =
    let end = closing digests (verbatim bytes) in
    let all = length-append (barred bytes ++ 10 ∷ []) end in
    let text = length-append (barred bytes) (10 ∷ []) in
    let size = length-closing digests (verbatim bytes) in
    ap (λ (xs : List ℕ). end_from 1 (bar ∷ []) xs) (append_assoc (barred bytes) (10 ∷ []) end)
    ∙ lines 1 [] bytes end ∙ closing-ends digests (verbatim bytes) (1 + length (barred bytes) + 1) ∙ ap Some (omega arith)

-- ---- what it has

-- the lines behind the first bar, without what ends the part
lines_of : (digests : Bool) (lines bytes : List ℕ) (end : ℕ) → bar ∷ lines ≡ verbatim bytes ++ closing digests (verbatim bytes)
    → end ≡ length lines - (closing_length digests + 1) → unbarred false (take end lines) ≡ bytes
lines_of digests lines bytes end is at_end =
    let tail = 10 ∷ closing digests (verbatim bytes) in
    let whole : lines ≡ barred bytes ++ tail = cc (is) ∙ append_assoc (barred bytes) (10 ∷ []) (closing digests (verbatim bytes)) in
    let size = length-closing digests (verbatim bytes) in
    let all = ap length whole ∙ length-append (barred bytes) tail in
    let place : end ≡ length (barred bytes) = omega arith in
    ap (unbarred false) (ap (λ (n : ℕ). take n lines) place ∙ ap (take (length (barred bytes))) whole ∙ take-append_seam (barred bytes) tail)
    ∙ unbarred-barred bytes

pub document_of : {E : Type 0} (r : Result (Vec ℕ Global) E) (digests : Bool) (lines part : List ℕ) (end : ℕ) → end ≡ length lines - (closing_length digests + 1)
    → part ≡ take end lines → IfOk r (λ rest. rest.items ≡ unbarred false part)
    → IfOk r (λ text. (bytes : List ℕ) → bar ∷ lines ≡ verbatim bytes ++ closing digests (verbatim bytes) → text.items ≡ bytes)
document_of (Ok rest) digests lines part end at_end same h = λ bytes is. h ∙ ap (unbarred false) same ∙ lines_of digests lines bytes end is at_end
document_of (Err e) digests lines part end at_end same h = tt
