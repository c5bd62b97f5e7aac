-- what an update costs, in fees or in gas (own choice)
use Rattle.std.specs.Prelude.{ℕ, ◌+◌, ◌*◌, ◌^◌, ◌≤◌}

pub record Fees : Type 0 where
  pub base : ℕ
  pub signature : ℕ
  pub validator : ℕ

-- each of the three is at most 10^9
abbrev pub IsFeeTable : Fees → Type 0
IsFeeTable t = (t.base ≤ 10 ^ 9) × (t.signature ≤ 10 ^ 9) × (t.validator ≤ 10 ^ 9)

-- the charge for an update that carries so many votes over so many validators
abbrev pub charge_of : Fees → ℕ → ℕ → ℕ
charge_of t votes validators = t.base + t.signature * votes + t.validator * validators
