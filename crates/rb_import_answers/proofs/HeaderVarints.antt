-- The digits of a varint, one at a time.
use Rattle.std.proofs.Common.{◌≡◌, ℕ, zero, suc, ◌+◌, ◌/◌, ◌%◌, ◌^◌, ◌<◌, ◌≤◌, [], ◌∷◌, ◌++◌, List, sym, ap, ◌∙◌, arith, append_assoc, inl, inr}
use Rattle.std.proofs.lemmas.Bool.{lt-ltb, lt-leb}
use Rattle.std.proofs.lemmas.Bool.Decides.{leb_tells}
use Rattle.std.proofs.Math.Nat.{pow-suc, div-lt_iff_lt-mul}
use Rattle.rb_valset.specs.Validator.{varint_within}
use Rattle.rb_import_answers.specs.Encoding.{varint, IsVarint}

-- one digit more than needed
varint_within-more : (d n : ℕ) → n < 128 ^ suc d → varint_within (suc d) n ≡ varint_within d n
unfolding varint_within
varint_within-more zero n h = rw (lt-ltb n 128 h)
varint_within-more (suc d) n h =
    let less : n / 128 < 128 ^ suc d = (div-lt_iff_lt-mul {k = 128} {x = n} {y = 128 ^ suc d} (omega arith)).1 (rw (sym (pow-suc 128 (suc d))) h) in
    elim (leb_tells (suc n) 128) [
      | inl p ↦ rw p.0
      | inr p ↦ rw p.0 (ap (λ ds. (n % 128 + 128) ∷ ds) (varint_within-more d (n / 128) less))
    ]

pub varint-last : (n : ℕ) → n < 128 → varint n ≡ n ∷ []
unfolding varint varint_within
varint-last n h = rw (lt-ltb n 128 h)

first_digit : (d n : ℕ) → 128 ≤ n → varint_within (suc d) n ≡ (n % 128 + 128) ∷ varint_within d (n / 128)
unfolding varint_within
first_digit d n more = rw (lt-leb (suc n) 128 (omega arith))

pub varint-step : (n : ℕ) → 128 ≤ n → n < 2 ^ 64 → varint n ≡ (n % 128 + 128) ∷ varint (n / 128)
unfolding varint
varint-step n more small =
    first_digit 8 n more ∙ ap (λ ds. (n % 128 + 128) ∷ ds) (sym (varint_within-more 8 (n / 128) (omega arith)))

pub varint_is : IsVarint varint
varint_is = record { last = varint-last; more = varint-step }

-- one digit more is written
pub written : (done new start : List ℕ) (digit rest number : ℕ) → new ≡ done ++ digit ∷ [] → digit ≡ rest % 128 + 128 → rest < 2 ^ 64 → 128 ≤ rest
    → done ++ varint rest ≡ start ++ varint number → new ++ varint (rest / 128) ≡ start ++ varint number
written done new start digit rest number e d small more h =
    let step : varint rest ≡ digit ∷ varint (rest / 128) = rw d (varint-step rest more small) in
    rw (e, append_assoc) (rw step at h)
