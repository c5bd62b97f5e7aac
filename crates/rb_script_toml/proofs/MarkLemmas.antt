-- A count of marks, byte by byte.
use Rattle.std.proofs.Common.{◌≡◌, ◌<◌, ◌≤◌, ◌+◌, ◌*◌, ◌==◌, ℕ, List, [], ◌∷◌, length, drop, slice_index_or, zero, suc, refl, true, false, Bool, Option, None, Some, ◌||◌, unwrap_or, arith, if◌then◌else◌, ap, ◌∙◌}
use Rattle.std.proofs.lemmas.List.{at_drop_more, at_drop_all}
use Rattle.rb_script_toml.specs.declared.marks.Place.{Place}
use Rattle.rb_script_toml.specs.Marks.{after, counted, may_open, marks_from}
use Rattle.rb_script_toml.specs.declared.marks.Place.TheVariants.{Outside, Comment, Opened, Doubled, Line, LineEscape, Lines, LinesEscape, Closed}
use Rattle.toml_parser.specs.Lexical.{equals, backslash}
use Rattle.memchr.specs.Find.{IsFirstByte, is_byte2}

eight_at_most : (opens equal : Bool) → (if opens then 8 else if equal then 1 else 0) ≤ 8
eight_at_most true equal = omega arith
eight_at_most false true = omega arith
eight_at_most false false = omega arith

pub counted_at_most : (p : Place) (b : ℕ) → counted p b ≤ 8
counted_at_most Outside b = eight_at_most (may_open b) (b == equals)
counted_at_most Comment b = omega arith
counted_at_most (Opened q) b = omega arith
counted_at_most (Doubled q) b = omega arith
counted_at_most (Line q) b = omega arith
counted_at_most LineEscape b = omega arith
counted_at_most (Lines q n) b = omega arith
counted_at_most LinesEscape b = omega arith
counted_at_most (Closed q) b = omega arith

pub marks_at_most : (p : Place) (text : List ℕ) → marks_from p text ≤ 8 * length text
unfolding marks_from
marks_at_most p [] = omega arith
marks_at_most p (b ∷ text) =
    let one = counted_at_most (after p b) b in
    let rest = marks_at_most (after p b) text in
    omega (arith, one, rest)

-- the next byte of what is still to come
pub next_mark : (p : Place) (n : ℕ) (text : List ℕ) → n < length text
    → marks_from p (drop n text) ≡ counted (after p (slice_index_or text n 0)) (slice_index_or text n 0) + marks_from (after p (slice_index_or text n 0)) (drop (n + 1) text)
unfolding marks_from
next_mark p n text h = at_drop_more (marks_from p) text n 0 h

-- a byte that is no mark, and behind which the place is as before it
pub plain_byte : (p : Place) (n : ℕ) (text : List ℕ) → n < length text
    → (after p (slice_index_or text n 0) ≡ p) × (counted p (slice_index_or text n 0) ≡ 0)
    → marks_from p (drop n text) ≡ marks_from p (drop (n + 1) text)
plain_byte p n text h plain =
    let byte = slice_index_or text n 0 in
    let next = next_mark p n text h ∙ ap (λ q. counted q byte + marks_from q (drop (n + 1) text)) plain.0 in
    let none = plain.1 in
    omega (arith, next, none)

one_more : (k : ℕ) → k + 1 ≡ suc k
one_more k = omega arith

-- behind bytes like that
pub plain_bytes : (p : Place) (k : ℕ) (text : List ℕ) → k ≤ length text
    → ((i : ℕ) → i < k → (after p (slice_index_or text i 0) ≡ p) × (counted p (slice_index_or text i 0) ≡ 0))
    → marks_from p text ≡ marks_from p (drop k text)
plain_bytes p zero text h plain = refl
plain_bytes p (suc k) text h plain =
    plain_bytes p k text (omega (arith, h)) (λ i below. plain i (omega (arith, below)))
    ∙ (plain_byte p k text (omega (arith, h)) (plain k (omega arith)) ∙ ap (λ n. marks_from p (drop n text)) (one_more k))

not_either : (x y : Bool) → ¬ ((x || y) ≡ true) → (x ≡ false) × (y ≡ false)
not_either true y none = absurd (none refl)
not_either false true none = absurd (none refl)
not_either false false none = (refl, refl)

-- a byte of a string of one line that neither may end it nor takes the next one along
in_line : (q b : ℕ) → ¬ (is_byte2 q backslash b ≡ true) → (after (Line q) b ≡ Line q) × (counted (Line q) b ≡ 0)
in_line q b neither =
    let other = not_either (b == q) (b == backslash) neither in
    (rw (other.0, other.1) refl, refl)

-- up to the first byte that may end a string there is no mark in it
pub skipped : (q : ℕ) (text : List ℕ) (r : Option ℕ) → IsFirstByte (is_byte2 q backslash) text r
    → marks_from (Line q) text ≡ marks_from (Line q) (drop (unwrap_or r (length text)) text)
skipped q text None first =
    plain_bytes (Line q) (length text) text (omega arith) (λ i below. in_line q (slice_index_or text i 0) (first i (omega arith) below))
skipped q text (Some k) first =
    plain_bytes (Line q) k text (omega (arith, first.0.high)) (λ i below. in_line q (slice_index_or text i 0) (first.0.before i (omega arith) below))

pub no_mark : (p : Place) (n : ℕ) (text : List ℕ) → length text ≤ n → marks_from p (drop n text) ≡ 0
unfolding marks_from
no_mark p n text h = at_drop_all (marks_from p) text n h
