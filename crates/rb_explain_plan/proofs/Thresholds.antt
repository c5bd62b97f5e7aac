-- What a search by halves finds: the greatest power that isn't more than a fraction of a total.
use Rattle.std.proofs.Common.{ℕ, ◌+◌, ◌*◌, ◌<◌, ◌≤◌, ◌⊎◌, inl, inr, arith}
use Rattle.std.proofs.Math.Nat.{mul-le-mul_right}
use Rattle.std.proofs.lemmas.Bool.{cases_lt}
use Rattle.rb_base.specs.Fraction.{Ratio, Exceeds}
use Rattle.rb_explain_plan.specs.Halves.{IsHalved}
use Rattle.rb_explain_plan.specs.Power.{IsThreshold}

exceeds_more : (total p q : ℕ) (r : Ratio) → p ≤ q → Exceeds p total r → Exceeds q total r
exceeds_more total p q r le h =
    let more : p * r.denominator ≤ q * r.denominator = mul-le-mul_right r.denominator le in
    let here : total * r.numerator < p * r.denominator = h in
    let there : total * r.numerator < q * r.denominator = omega arith in
    there

none_exceeds : (total : ℕ) (r : Ratio) → Exceeds 0 total r → ⊥
none_exceeds total r h = let here : total * r.numerator < 0 * r.denominator = h in omega arith

pub halved_first : (total : ℕ) (r : Ratio) → IsHalved total 0 (total + 1) r
halved_first total r = record {
  within = none_exceeds total r;
  beyond = λ le. absurd (omega arith);
  order = omega arith;
  range = omega arith;
}

pub halved_down : (total within beyond middle : ℕ) (r : Ratio) → IsHalved total within beyond r → within < middle → middle < beyond → Exceeds middle total r → IsHalved total within middle r
halved_down total within beyond middle r is above below h = let range = is.range in record { within = is.within; beyond = λ _. h; order = above; range = omega arith }

pub halved_up : (total within beyond middle : ℕ) (r : Ratio) → IsHalved total within beyond r → within < middle → middle < beyond → (Exceeds middle total r → ⊥) → IsHalved total middle beyond r
halved_up total within beyond middle r is above below without = record { within = without; beyond = is.beyond; order = below; range = is.range }

pub halved_end : (total within beyond : ℕ) (r : Ratio) → IsHalved total within beyond r → beyond ≤ within + 1 → IsThreshold total r within
halved_end total within beyond r is end =
    let order = is.order in
    let range = is.range in
    record { within = omega arith; parts = λ power le. (above power, below power le) }
  where
    above : (power : ℕ) → Exceeds power total r → within < power
    above power h = go (cases_lt within power)
      where
        go : (within < power) ⊎ (power ≤ within) → within < power
        go (inl lt) = lt
        go (inr ge) = absurd (is.within (exceeds_more total power within r ge h))

    below : (power : ℕ) → power ≤ total → within < power → Exceeds power total r
    below power le lt =
        let order = is.order in
        let to : beyond ≤ power = omega arith in
        let inside : beyond ≤ total = omega arith in
        exceeds_more total beyond power r to (is.beyond inside)
