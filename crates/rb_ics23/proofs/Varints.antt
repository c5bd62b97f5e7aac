-- The digits of a varint, one at a time.
use Rattle.std.proofs.Common.{List, Some, [], ap, append_assoc, arith, inl, inr, refl, suc, sym, zero, ℕ, ◌%◌, ◌*◌, ◌++◌, ◌+◌, ◌-◌, ◌/◌, ◌<◌, ◌^◌, ◌∙◌, ◌∷◌, ◌≡◌, ◌≤◌}
use Rattle.std.proofs.lemmas.Bool.{lt-ltb, lt-leb}
use Rattle.std.proofs.lemmas.Bool.Decides.{leb_tells}
use Rattle.std.proofs.Math.Nat.{pow-suc, div-lt_iff_lt-mul}
use Rattle.rb_ics23.specs.Varint.{varint_within, varint, varint_at, IsVarint, IsReadAgain}

-- one digit more than needed
varint_within-more : (d n : ℕ) → n < 128 ^ suc d → varint_within (suc d) n ≡ varint_within d n
unfolding varint_within
varint_within-more zero n h = rw (lt-ltb n 128 h)
varint_within-more (suc d) n h =
    let less : n / 128 < 128 ^ suc d = (div-lt_iff_lt-mul {k = 128} {x = n} {y = 128 ^ suc d} (omega arith)).1 (rw (sym (pow-suc 128 (suc d))) h) in
    elim (leb_tells (suc n) 128) [
      | inl p ↦ rw p.0
      | inr p ↦ rw p.0 (ap (λ ds. (n % 128 + 128) ∷ ds) (varint_within-more d (n / 128) less))
    ]

pub varint-last : (n : ℕ) → n < 128 → varint n ≡ n ∷ []
unfolding varint varint_within
varint-last n h = rw (lt-ltb n 128 h)

first_digit : (d n : ℕ) → 128 ≤ n → varint_within (suc d) n ≡ (n % 128 + 128) ∷ varint_within d (n / 128)
unfolding varint_within
first_digit d n more = rw (lt-leb (suc n) 128 (omega arith))

pub varint-step : (n : ℕ) → 128 ≤ n → n < 2 ^ 64 → varint n ≡ (n % 128 + 128) ∷ varint (n / 128)
unfolding varint
varint-step n more small =
    first_digit 8 n more ∙ ap (λ ds. (n % 128 + 128) ∷ ds) (sym (varint_within-more 8 (n / 128) (omega arith)))

pub varint_is : IsVarint varint
varint_is = record { last = varint-last; more = varint-step }

-- one digit more
pub more_digits : (m : List ℕ) (n digit : ℕ) → 128 ≤ n → n < 2 ^ 64 → digit ≡ n % 128 + 128 → m ++ digit ∷ [] ++ varint (n / 128) ≡ m ++ varint n
more_digits m n digit more small d = rw (varint-step n more small, d, append_assoc) refl

-- what is written is read, whatever follows it
again_within : (d n : ℕ) (rest : List ℕ) → n < 128 ^ suc d → n < 2 ^ 64 → varint_at (suc d) (varint_within d n ++ rest) ≡ Some (n, rest)
unfolding varint_at varint_within
again_within zero n rest h small = rw (lt-ltb n 128 h) refl
again_within (suc d) n rest h small =
    let less : n / 128 < 128 ^ suc d = (div-lt_iff_lt-mul {k = 128} {x = n} {y = 128 ^ suc d} (omega arith)).1 (rw (sym (pow-suc 128 (suc d))) h) in
    elim (leb_tells (suc n) 128) [
      | inl p ↦ rw (p.0, p.0) refl
      | inr p ↦
          let again : varint_at (suc d) (varint_within d (n / 128) ++ rest) ≡ Some (n / 128, rest) = again_within d (n / 128) rest less (omega arith) in
          let sum : n % 128 + 128 - 128 + 128 * (n / 128) ≡ n = omega arith in
          rw (p.0, lt-leb (suc (n % 128 + 128)) 128 (omega arith), again, lt-ltb (n / 128) (2 ^ 57) (omega arith)) (ap (λ m. Some (m, rest)) sum)
    ]

pub varint_at-varint : IsReadAgain
unfolding varint
varint_at-varint n rest small = again_within 9 n rest (omega arith) small
