-- Where the first part of a journal ends.
use Rattle.std.proofs.Common.{◌≡◌, ℕ, suc, ◌+◌, ◌-◌, ◌<◌, ◌≤◌, ◌==◌, true, false, List, [], ◌∷◌, ◌++◌, length, get_or, take, drop, Some, refl, ap, ◌∙◌, add-one, inl, inr, length-drop, drop-cons, arith}
use Rattle.std.proofs.lemmas.Bool.{cases_Bool}
use Rattle.std.proofs.lemmas.List.{take_more, get_or-drop}
use Rattle.std.specs.Str.{bytes_eq}
use Rattle.rb_journal.specs.Parts.{mark, end_from, part_end, IsWhole}

-- what ends a part ends it whatever comes behind
end_from-append : (count : ℕ) (line bs more : List ℕ) (n : ℕ) → end_from count line bs ≡ Some n → end_from count line (bs ++ more) ≡ Some n
end_from-append count line [] more n e = cc
end_from-append count line (b ∷ bs) more n e =
    elim (cases_Bool (b == 10)) [
      | inl feed ↦ elim (cases_Bool (bytes_eq (line ++ b ∷ []) mark)) [
        | inl ends ↦ rw (feed, ends) (rw (feed, ends) at e)
        | inr goes_on ↦ rw (feed, goes_on) (end_from-append (count + 1) [] bs more n (rw (feed, goes_on) at e))
      ]
      | inr other ↦ rw other (end_from-append (count + 1) (line ++ b ∷ []) bs more n (rw other at e))
    ]

pub part_end-append : (bs more : List ℕ) (n : ℕ) → part_end bs ≡ Some n → part_end (bs ++ more) ≡ Some n
unfolding part_end
part_end-append bs more n e = end_from-append 0 [] bs more n e

-- a part ends within the bytes, and its bytes alone are whole
abbrev pub Within : ℕ → List ℕ → List ℕ → ℕ → Type 0
Within count line bs n = (k : ℕ) × (n ≡ count + 1 + k) × (k < length bs) × (end_from count line (take (suc k) bs) ≡ Some n)

end_from-take : (count : ℕ) (line bs : List ℕ) (n : ℕ) → end_from count line bs ≡ Some n → Within count line bs n
end_from-take count line [] n e = cc
end_from-take count line (b ∷ bs) n e =
    elim (cases_Bool (b == 10)) [
      | inl feed ↦ elim (cases_Bool (bytes_eq (line ++ b ∷ []) mark)) [
        | inl ends ↦
            let same : Some (count + 1) ≡ Some n = rw (feed, ends) at e in
            let at_n : count + 1 ≡ n = cc in
            (0, omega arith, omega arith, rw (feed, ends) same)
        | inr goes_on ↦
            let w : Within (count + 1) [] bs n = end_from-take (count + 1) [] bs n (rw (feed, goes_on) at e) in
            let is = w.1 in
            let less = w.2 in
            (suc w.0, omega arith, omega arith, rw (feed, goes_on) w.3)
      ]
      | inr other ↦
          let w : Within (count + 1) (line ++ b ∷ []) bs n = end_from-take (count + 1) (line ++ b ∷ []) bs n (rw other at e) in
          let is = w.1 in
          let less = w.2 in
          (suc w.0, omega arith, omega arith, rw other w.3)
    ]

pub part_end-within : (bs : List ℕ) (n : ℕ) → part_end bs ≡ Some n → n ≤ length bs
unfolding part_end
part_end-within bs n e =
    let w : Within 0 [] bs n = end_from-take 0 [] bs n e in
    let less = w.2 in
    let is = w.1 in
    omega arith

pub part-some : (part : List ℕ) → IsWhole part → 0 < length part
unfolding part_end
part-some part whole =
    let w : Within 0 [] part (length part) = end_from-take 0 [] part (length part) whole in
    let less = w.2 in
    omega arith

pub part_end-take : (bs : List ℕ) (n : ℕ) → part_end bs ≡ Some n → part_end (take n bs) ≡ Some n
unfolding part_end
part_end-take bs n e =
    let w : Within 0 [] bs n = end_from-take 0 [] bs n e in
    let same : n ≡ suc w.0 = w.1 ∙ omega arith in
    ap (λ (m : ℕ). end_from 0 [] (take m bs)) same ∙ w.3

-- ---- reading on from a place in the bytes

-- the bytes of the last line, with one more
line-more : (bs : List ℕ) (start place : ℕ) → start ≤ place → place < length bs
    → take (place - start) (drop start bs) ++ get_or bs place 0 ∷ [] ≡ take (place + 1 - start) (drop start bs)
line-more bs start place before within =
    let i = place - start in
    let less : i < length (drop start bs) = simp length-drop (omega arith) in
    let here : get_or (drop start bs) i 0 ≡ get_or bs place 0 = get_or-drop start bs i 0 ∙ ap (λ (n : ℕ). get_or bs n 0) (omega arith) in
    let count : i + 1 ≡ place + 1 - start = omega arith in
    rw (← here, ← take_more (drop start bs) i 0 less, count) refl

next : (bs : List ℕ) (place : ℕ) → place < length bs → drop place bs ≡ get_or bs place 0 ∷ drop (place + 1) bs
next bs place within = rw add-one (drop-cons bs place 0 within)

pub ends-here : (bs : List ℕ) (start place : ℕ) → start ≤ place → place < length bs → get_or bs place 0 ≡ 10
    → bytes_eq (take (place + 1 - start) (drop start bs)) mark ≡ true
    → end_from place (take (place - start) (drop start bs)) (drop place bs) ≡ Some (place + 1)
ends-here bs start place before within feed is =
    rw (next bs place within, line-more bs start place before within, feed, is) refl

pub line-ends : (bs : List ℕ) (start place : ℕ) → start ≤ place → place < length bs → get_or bs place 0 ≡ 10
    → bytes_eq (take (place + 1 - start) (drop start bs)) mark ≡ false
    → end_from place (take (place - start) (drop start bs)) (drop place bs) ≡ end_from (place + 1) [] (drop (place + 1) bs)
line-ends bs start place before within feed is =
    rw (next bs place within, line-more bs start place before within, feed, is) refl

pub nothing-taken : (n : ℕ) (xs : List ℕ) → take (n - n) xs ≡ []
nothing-taken n xs =
    let none : n - n ≡ 0 = omega arith in
    rw none refl

pub line-goes_on : (bs : List ℕ) (start place : ℕ) → start ≤ place → place < length bs → (get_or bs place 0 == 10) ≡ false
    → end_from place (take (place - start) (drop start bs)) (drop place bs) ≡ end_from (place + 1) (take (place + 1 - start) (drop start bs)) (drop (place + 1) bs)
line-goes_on bs start place before within other =
    rw (next bs place within, line-more bs start place before within, other) refl
