-- What a transaction pays: its gas limit times a price, both rounded up (Cosmos SDK, `Fee`).
use Rattle.std.specs.Prelude.{ℕ, ◌+◌, ◌-◌, ◌*◌, ◌/◌, ◌<◌, ◌≤◌, ◌^◌, min}

-- a number from 0 on
pub record Ratio : Type 0 where
  pub numerator : ℕ
  pub denominator : ℕ

abbrev pub IsRatio : ℕ → ℕ → Type 0
IsRatio numerator denominator = (numerator < 2 ^ 63) × (0 < denominator) × (denominator < 2 ^ 63)

-- the least number that is at least so many times the ratio
abbrev pub times_up : ℕ → Ratio → ℕ
times_up count r = (count * r.numerator + (r.denominator - 1)) / r.denominator

-- the most gas that a transaction may take, below 2^64
abbrev pub gas_limit : ℕ → Ratio → ℕ
gas_limit gas factor = min (times_up gas factor) (2 ^ 64 - 1)

abbrev pub fee_amount : ℕ → Ratio → ℕ
fee_amount limit price = times_up limit price
