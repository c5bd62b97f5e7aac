-- The masked total, column by column.
use Rattle.std.proofs.Common.{◌≡◌, ℕ, zero, suc, ◌+◌, ◌-◌, ◌*◌, min, eqb, ◌<◌, ◌≤◌, Bool, true, false, cond, List, [], ◌∷◌, length, get_or, take, drop, set, map, sum, sum_by, replicate, zero-add, add-zero, refl, sym, ap, subst, ◌∙◌, inl, inr, arith}
use Rattle.std.specs.List.{zip, All}
use Rattle.std.specs.Int.{from_bool}
use Rattle.std.specs.Simd.Lanes.{chunk, sel_l, sum_l}
use Rattle.std.proofs.lemmas.Bool.{cases_lt}
use Rattle.std.proofs.lemmas.List.{get_or_past, take_all, length-replicate, length-take, get_or-take, get_or_default}
use Rattle.std.proofs.lemmas.List.FromFn.{length-map-range_with_len}
use Rattle.std.proofs.lemmas.Simd.{length-chunk, length-sel_l}
use Rattle.std.proofs.lemmas.List.Sums.{sum_by-cons, sum_by_more, sum_by_more_le, sum_by_more_le_part, sum_by-take-le}
use Rattle.rb_lanes.specs.Lanes.{masked_total, member_total, bits_of, IsSpread}
use Rattle.rb_lanes.proofs.Planes.{length-bits_of, bit_in_chunk}

-- the same by a test of the column, from a column on
abbrev pub masked_from : (ℕ → Bool) → ℕ → List ℕ → ℕ
masked_from bit i [] = 0
masked_from bit i (p ∷ ps) = cond (bit i) p 0 + masked_from bit (suc i) ps

abbrev pub at : List Bool → ℕ → Bool
at bits k = get_or bits k false

pub masked-cons : (p : ℕ) (ps : List ℕ) (b : Bool) (bs : List Bool) → masked_total (p ∷ ps) (b ∷ bs) ≡ cond b p 0 + masked_total ps bs
unfolding masked_total
masked-cons p ps b bs = sum_by-cons (λ (x : ℕ × Bool). cond x.1 x.0 0) (p, b) (zip ps bs)

masked-none : (ps : List ℕ) → masked_total ps [] ≡ 0
unfolding masked_total
masked-none [] = refl
masked-none (p ∷ ps) = refl

masked-empty : (bs : List Bool) → masked_total [] bs ≡ 0
unfolding masked_total
masked-empty bs = refl

-- where no bit is set there is nothing
pub from-none : (bit : ℕ → Bool) (i : ℕ) (ps : List ℕ) → ((k : ℕ) → i ≤ k → bit k ≡ false) → masked_from bit i ps ≡ 0
from-none bit i [] none = refl
from-none bit i (p ∷ ps) none = ap (λ (b : Bool). cond b p 0 + masked_from bit (suc i) ps) (none i (omega arith)) ∙ zero-add (masked_from bit (suc i) ps) ∙ from-none bit (suc i) ps (λ k le. none k (omega arith))

drop-at : (bs : List Bool) (i : ℕ) → i < length bs → drop i bs ≡ get_or bs i false ∷ drop (suc i) bs
drop-at [] i lt = absurd (omega arith)
drop-at (b ∷ bs) zero lt = refl
drop-at (b ∷ bs) (suc i) lt = drop-at bs i (omega arith)

drop-past : (bs : List Bool) (i : ℕ) → length bs ≤ i → drop i bs ≡ []
drop-past [] zero le = refl
drop-past [] (suc i) le = refl
drop-past (b ∷ bs) zero le = absurd (omega arith)
drop-past (b ∷ bs) (suc i) le = drop-past bs i (omega arith)

pub masked-from : (ps : List ℕ) (bs : List Bool) (i : ℕ) → masked_total ps (drop i bs) ≡ masked_from (at bs) i ps
masked-from [] bs i = masked-empty (drop i bs)
masked-from (p ∷ ps) bs i = elim (cases_lt i (length bs)) [
  | inl lt ↦ ap (masked_total (p ∷ ps)) (drop-at bs i lt) ∙ masked-cons p ps (get_or bs i false) (drop (suc i) bs) ∙ ap (λ (n : ℕ). cond (get_or bs i false) p 0 + n) (masked-from ps bs (suc i))
  | inr le ↦ ap (masked_total (p ∷ ps)) (drop-past bs i le) ∙ masked-none (p ∷ ps) ∙ sym (from-none (at bs) i (p ∷ ps) (λ k up. get_or_past bs k false (omega arith)))
]

-- one column more
pub from-more : (bit : ℕ → Bool) (i k : ℕ) (ps : List ℕ) (d : ℕ) → k < length ps → masked_from bit i (take (k + 1) ps) ≡ masked_from bit i (take k ps) + cond (bit (i + k)) (get_or ps k d) 0
from-more bit i k [] d lt = absurd (omega arith)
from-more bit i zero (p ∷ ps) d lt = let e : i + 0 ≡ i = omega arith in rw e (add-zero (cond (bit i) p 0) ∙ sym (zero-add (cond (bit i) p 0)))
from-more bit i (suc k) (p ∷ ps) d lt =
    let e : i + suc k ≡ suc i + k = omega arith in
    let n : suc k + 1 ≡ suc (k + 1) = omega arith in
    let r = from-more bit (suc i) k ps d (omega arith) in
    rw (e, n) (omega (arith, r))

-- eight columns more, or any number
pub from-chunk : (bit : ℕ → Bool) (i k n : ℕ) (ps : List ℕ) → masked_from bit i (take (k + n) ps) ≡ masked_from bit i (take k ps) + masked_from bit (i + k) (chunk k n ps)
from-chunk bit i zero n ps = let e : i + 0 ≡ i = omega arith in let z : 0 + n ≡ n = omega arith in rw (e, z) (sym (zero-add (masked_from bit i (take n ps))))
from-chunk bit i (suc k) n [] = ap (masked_from bit i) (take_all (suc k + n) [] (omega arith)) ∙ sym (zero-add (masked_from bit (i + suc k) (chunk (suc k) n [])) ∙ ap (masked_from bit (i + suc k)) (take_all n [] (omega arith)))
from-chunk bit i (suc k) n (p ∷ ps) =
    let e : i + suc k ≡ suc i + k = omega arith in
    let m : suc k + n ≡ suc (k + n) = omega arith in
    let r = from-chunk bit (suc i) k n ps in
    rw (e, m) (omega (arith, r))

-- the rest, where no bit is set there
pub from-rest : (bit : ℕ → Bool) (i n : ℕ) (ps : List ℕ) → ((k : ℕ) → i + n ≤ k → bit k ≡ false) → masked_from bit i (take n ps) ≡ masked_from bit i ps
from-rest bit i n [] none = ap (masked_from bit i) (take_all n [] (omega arith))
from-rest bit i zero (p ∷ ps) none = sym (from-none bit i (p ∷ ps) (λ k le. none k (omega arith)))
from-rest bit i (suc n) (p ∷ ps) none = ap (λ (s : ℕ). cond (bit i) p 0 + s) (from-rest bit (suc i) n ps (λ k le. none k (omega arith)))

pub part-le : (b : Bool) (p : ℕ) → cond b p 0 ≤ p
part-le true p = omega arith
part-le false p = omega arith

sum-cons : (p : ℕ) (ps : List ℕ) → sum (p ∷ ps) ≡ p + sum ps
sum-cons p ps = sum_by-cons (λ (n : ℕ). n) p ps

pub from-le : (bit : ℕ → Bool) (i : ℕ) (ps : List ℕ) → masked_from bit i ps ≤ sum ps
from-le bit i [] = omega arith
from-le bit i (p ∷ ps) = omega (arith, part-le (bit i) p, from-le bit (suc i) ps, sum-cons p ps)

-- lanes that are selected by the columns' bits
pub sum-selected : (bit : ℕ → Bool) (i : ℕ) (ms : List Bool) (ps : List ℕ) → length ms ≡ length ps → ((j : ℕ) → j < length ps → get_or ms j false ≡ bit (i + j)) → sum_l (sel_l ms ps (replicate (length ps) 0)) ≡ masked_from bit i ps
sum-selected bit i [] [] same is = refl
sum-selected bit i [] (p ∷ ps) same is = absurd (omega arith)
sum-selected bit i (m ∷ ms) [] same is = absurd (omega arith)
sum-selected bit i (m ∷ ms) (p ∷ ps) same is =
    let here : m ≡ bit i = is 0 (omega arith) ∙ ap bit (omega arith) in
    let rest = sum-selected bit (suc i) ms ps (omega arith) (λ j lt. is (suc j) (omega arith) ∙ ap bit (omega arith)) in
    ap (λ (b : Bool). cond b p 0 + sum_l (sel_l ms ps (replicate (length ps) 0))) here ∙ ap (λ (n : ℕ). cond (bit i) p 0 + n) rest

-- eight lanes more
pub lane_step : (bytes ps acc lanes : List ℕ) (s : ℕ) → length acc ≡ 8 → sum_l acc ≡ masked_from (at (bits_of bytes)) 0 (take (8 * s) ps) → 8 * s + 8 ≤ length bytes → 8 * s + 8 ≤ length ps
    → lanes ≡ sel_l (bits_of (chunk (8 * s) 8 bytes)) (chunk (8 * s) 8 ps) (replicate 8 0)
    → (length lanes ≡ 8) × (sum_l acc + sum_l lanes ≡ masked_from (at (bits_of bytes)) 0 (take (8 * (s + 1)) ps))
lane_step bytes ps acc lanes s long so_far within room is =
    let eight : length (chunk (8 * s) 8 ps) ≡ 8 = length-chunk (8 * s) 8 ps room in
    let bits_long : length (bits_of (chunk (8 * s) 8 bytes)) ≡ 8 = length-bits_of (chunk (8 * s) 8 bytes) ∙ length-chunk (8 * s) 8 bytes within in
    let lanes_long : length lanes ≡ 8 = ap (λ (l : List ℕ). length l) is ∙ length-sel_l (bits_of (chunk (8 * s) 8 bytes)) (chunk (8 * s) 8 ps) (replicate 8 0) (omega (arith, eight, bits_long)) (omega (arith, bits_long, length-replicate {A = ℕ} 8 0)) ∙ bits_long in
    let each : (j : ℕ) → j < length (chunk (8 * s) 8 ps) → get_or (bits_of (chunk (8 * s) 8 bytes)) j false ≡ at (bits_of bytes) (8 * s + j) = λ j lt. bit_in_chunk bytes (8 * s) j within (omega (arith, lt, eight)) in
    let picked = sum-selected (at (bits_of bytes)) (8 * s) (bits_of (chunk (8 * s) 8 bytes)) (chunk (8 * s) 8 ps) (bits_long ∙ sym eight) each in
    let here : sum_l lanes ≡ masked_from (at (bits_of bytes)) (8 * s) (chunk (8 * s) 8 ps) = ap (λ (l : List ℕ). sum_l l) is ∙ ap (λ (n : ℕ). sum_l (sel_l (bits_of (chunk (8 * s) 8 bytes)) (chunk (8 * s) 8 ps) (replicate n 0))) (sym eight) ∙ picked in
    let more = from-chunk (at (bits_of bytes)) 0 (8 * s) 8 ps ∙ ap (λ (n : ℕ). masked_from (at (bits_of bytes)) 0 (take (8 * s) ps) + masked_from (at (bits_of bytes)) n (chunk (8 * s) 8 ps)) (zero-add (8 * s)) in
    let turn : 8 * (s + 1) ≡ 8 * s + 8 = omega arith in
    (lanes_long, rw turn (omega (arith, so_far, here, more)))

pub from-take-le : (bit : ℕ → Bool) (i n : ℕ) (ps : List ℕ) → masked_from bit i (take n ps) ≤ sum ps
from-take-le bit i n ps = omega (arith, from-le bit i (take n ps), sum_by-take-le (λ (p : ℕ). p) ps n)

pub from-fits : (bit : ℕ → Bool) (i k : ℕ) (ps : List ℕ) (d : ℕ) → k < length ps → masked_from bit i (take k ps) + get_or ps k d ≤ sum ps
from-fits bit i k ps d lt = omega (arith, from-le bit i (take k ps), sum_by_more_le (λ (p : ℕ). p) ps k d lt)

drop-zero : (bs : List Bool) → drop 0 bs ≡ bs
drop-zero [] = refl
drop-zero (b ∷ bs) = refl

-- the whole sum
pub from-end : (bits : List Bool) (ps : List ℕ) (n : ℕ) → n ≡ min (length bits) (length ps) → masked_from (at bits) 0 (take n ps) ≡ masked_total ps bits
from-end bits ps n e = elim (cases_lt n (length ps)) [
  | inl lt ↦ from-rest (at bits) 0 n ps (λ k up. get_or_past bits k false (omega arith)) ∙ whole
  | inr le ↦ ap (masked_from (at bits) 0) (take_all n ps le) ∙ whole
]
  where
    whole : masked_from (at bits) 0 ps ≡ masked_total ps bits
    whole = sym (masked-from ps bits 0) ∙ ap (masked_total ps) (drop-zero bits)

pub from-start : (bits : List Bool) (ps : List ℕ) (n : ℕ) → length ps ≤ n → masked_from (at bits) 0 (take n ps) ≡ masked_total ps bits
from-start bits ps n le = ap (masked_from (at bits) 0) (take_all n ps le) ∙ sym (masked-from ps bits 0) ∙ ap (masked_total ps) (drop-zero bits)

pub masked-drop_zero : (bits : List Bool) (ps : List ℕ) → masked_total ps (drop 0 bits) ≡ masked_total ps bits
masked-drop_zero bits ps = ap (masked_total ps) (drop-zero bits)

-- ---- by members

pub members-more : (ms : List (ℕ × ℕ)) (bits : List Bool) (i : ℕ) (d : ℕ × ℕ) → i < length ms → member_total (take (i + 1) ms) bits ≡ member_total (take i ms) bits + cond (get_or bits (get_or ms i d).0 false) (get_or ms i d).1 0
unfolding member_total
members-more ms bits i d lt = sum_by_more (λ (m : ℕ × ℕ). cond (get_or bits m.0 false) m.1 0) ms i d lt

pub members-fit : (ms : List (ℕ × ℕ)) (bits : List Bool) (i : ℕ) (d : ℕ × ℕ) → i < length ms → member_total (take i ms) bits + (get_or ms i d).1 ≤ sum_by (λ (m : ℕ × ℕ). m.1) ms
unfolding member_total
members-fit ms bits i d lt = sum_by_more_le_part (λ (m : ℕ × ℕ). cond (get_or bits m.0 false) m.1 0) (λ (m : ℕ × ℕ). m.1) ms i d lt (λ m. part-le (get_or bits m.0 false) m.1)

pub members-none : (bits : List Bool) → member_total [] bits ≡ 0
unfolding member_total
members-none bits = refl

pub times-bit : (p n : ℕ) (b : Bool) → n ≡ from_bool b → p * n ≡ cond b p 0
times-bit p n true e = ap (λ (x : ℕ). p * x) e ∙ omega arith
times-bit p n false e = ap (λ (x : ℕ). p * x) e ∙ omega arith

-- ---- more power in a column

pub from-raised : (bit : ℕ → Bool) (i k x : ℕ) (ps : List ℕ) → k < length ps → masked_from bit i (set ps k (get_or ps k 0 + x)) ≡ masked_from bit i ps + cond (bit (i + k)) x 0
from-raised bit i k x [] lt = absurd (omega arith)
from-raised bit i zero x (p ∷ ps) lt =
    let e : i + 0 ≡ i = omega arith in
    rw e (by (bit i))
  where
    by : (b : Bool) → cond b (p + x) 0 + masked_from bit (suc i) ps ≡ (cond b p 0 + masked_from bit (suc i) ps) + cond b x 0
    by true = omega arith
    by false = omega arith
from-raised bit i (suc k) x (p ∷ ps) lt =
    let e : i + suc k ≡ suc i + k = omega arith in
    let r = from-raised bit (suc i) k x ps (omega arith) in
    rw e (omega (arith, r))

pub sum-raised : (k x : ℕ) (ps : List ℕ) → k < length ps → sum (set ps k (get_or ps k 0 + x)) ≡ sum ps + x
sum-raised k x [] lt = absurd (omega arith)
sum-raised zero x (p ∷ ps) lt = omega (arith, sum-cons (p + x) ps, sum-cons p ps)
sum-raised (suc k) x (p ∷ ps) lt = omega (arith, sum-cons p (set ps k (get_or ps k 0 + x)), sum-cons p ps, sum-raised k x ps (omega arith))

zeros-from : (bit : ℕ → Bool) (i n : ℕ) → masked_from bit i (replicate n 0) ≡ 0
zeros-from bit i zero = refl
zeros-from bit i (suc n) = by (bit i) ∙ zeros-from bit (suc i) n
  where
    by : (b : Bool) → cond b 0 0 + masked_from bit (suc i) (replicate n 0) ≡ masked_from bit (suc i) (replicate n 0)
    by true = zero-add (masked_from bit (suc i) (replicate n 0))
    by false = zero-add (masked_from bit (suc i) (replicate n 0))

pub sum-zeros : (n : ℕ) → sum (replicate n 0) ≡ 0
sum-zeros zero = refl
sum-zeros (suc n) = sum-cons 0 (replicate n 0) ∙ zero-add (sum (replicate n 0)) ∙ sum-zeros n

pub spread-zeros : (n first : ℕ) → IsSpread (replicate n 0) first []
spread-zeros n first = λ bits. masked-from (replicate n 0) bits first ∙ zeros-from (at bits) first n ∙ sym (members-none bits)

-- one member more
pub spread-more : (ps : List ℕ) (first i : ℕ) (ms : List (ℕ × ℕ)) (d : ℕ × ℕ) → i < length ms → first ≤ (get_or ms i d).0 → (get_or ms i d).0 - first < length ps → IsSpread ps first (take i ms)
    → IsSpread (set ps ((get_or ms i d).0 - first) (get_or ps ((get_or ms i d).0 - first) 0 + (get_or ms i d).1)) first (take (i + 1) ms)
spread-more ps first i ms d lt low high so_far = λ bits.
    let k : ℕ = (get_or ms i d).0 - first in
    let x : ℕ = (get_or ms i d).1 in
    let column : first + k ≡ (get_or ms i d).0 = omega arith in
    masked-from (set ps k (get_or ps k 0 + x)) bits first
    ∙ from-raised (at bits) first k x ps high
    ∙ (λ j. (sym (masked-from ps bits first) ∙ so_far bits) j + cond (at bits (column j)) x 0)
    ∙ sym (members-more ms bits i d lt)

-- ---- the columns' end

pub below-more : (ms : List (ℕ × ℕ)) (i e f : ℕ) (d : ℕ × ℕ) → i < length ms → All (λ (m : ℕ × ℕ). m.0 < e) (take i ms) → e ≤ f → (get_or ms i d).0 < f → All (λ (m : ℕ × ℕ). m.0 < f) (take (i + 1) ms)
below-more ms i e f d lt all le here = λ k q within.
    let long = length-take (i + 1) ms in
    elim (cases_lt k i) [
      | inl less ↦
          let before = all k q (omega (arith, length-take i ms)) in
          let same : (get_or (take i ms) k q).0 ≡ (get_or (take (i + 1) ms) k q).0 = ap (λ (m : ℕ × ℕ). m.0) (get_or-take i ms k q less ∙ sym (get_or-take (i + 1) ms k q (omega arith))) in
          omega (arith, before, same, le)
      | inr more ↦
          let at_end : k ≡ i = omega (arith, within, long, more) in
          let same : (get_or (take (i + 1) ms) k q).0 ≡ (get_or ms i d).0 = ap (λ (m : ℕ × ℕ). m.0) (get_or-take (i + 1) ms k q (omega arith) ∙ ap (λ (n : ℕ). get_or ms n q) at_end ∙ get_or_default ms i q d lt) in
          omega (arith, here, same)
    ]

pub below-all : (ms : List (ℕ × ℕ)) (n e : ℕ) → length ms ≤ n → All (λ (m : ℕ × ℕ). m.0 < e) (take n ms) → All (λ (m : ℕ × ℕ). m.0 < e) ms
below-all ms n e le all = subst (λ (l : List (ℕ × ℕ)). All (λ (m : ℕ × ℕ). m.0 < e) l) (take_all n ms le) all
