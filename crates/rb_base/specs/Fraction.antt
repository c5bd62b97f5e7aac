-- fractions of a voting power (CometBFT light client: trust level)
use Rattle.std.specs.Prelude.{ℕ, ◌*◌, ◌<◌, ◌≤◌}

pub record Ratio : Type 0 where
  pub numerator : ℕ
  pub denominator : ℕ

-- n / d is a trust level: from a third to one
abbrev pub IsTrustLevel : ℕ → ℕ → Type 0
IsTrustLevel n d = (0 < d) × (d ≤ 3 * n) × (n ≤ d)

abbrev pub one_third : Ratio
one_third = record { numerator = 1; denominator = 3 }

abbrev pub two_thirds : Ratio
two_thirds = record { numerator = 2; denominator = 3 }

-- the power is more than the fraction r of the total; equality is not more. Own: no overflow (CometBFT refuses where total * numerator isn't below 2^63, which
-- no numerator up to 8 reaches)
abbrev pub Exceeds : ℕ → ℕ → Ratio → Type 0
Exceeds power total r = total * r.numerator < power * r.denominator
