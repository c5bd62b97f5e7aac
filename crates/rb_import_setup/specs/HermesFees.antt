-- What updates cost, by the price of gas.
use Rattle.std.specs.Prelude.{◌≡◌, ℕ, zero, suc, ◌*◌, ◌/◌, ◌^◌, ◌<◌, ◌≤◌, ◌==◌, nat_le, if◌then◌else◌}

-- the gas of an update, of each commit vote, and of each validator of the two sets (a guess)
abbrev pub gas : ℕ × ℕ × ℕ
gas = (80000, 3000, 200)

-- the gas of a transaction by itself (a guess)
abbrev pub transaction_gas : ℕ
transaction_gas = 20000

-- the greatest number of a fee
abbrev pub max_fee : ℕ
max_fee = 1000000000

-- the first of as many units, each ten times the one before, in which an amount is at most the greatest number of a fee
unfoldable pub unit_from : ℕ → ℕ → ℕ → ℕ
unit_from zero unit amount = unit
unit_from (suc n) unit amount = if nat_le (amount / unit) max_fee then unit else unit_from n (unit * 10) amount

-- the least power of ten in which an amount, of less than 10 ^ 33, is at most the greatest number of a fee
unfoldable pub unit_of : ℕ → ℕ
unit_of amount = unit_from 24 1 amount

-- each gas times the price, in a unit
abbrev pub priced : ℕ → ℕ → ℕ × ℕ × ℕ
priced unit price = (gas.0 * price / unit, gas.1 * price / unit, gas.2 * price / unit)

-- the fees of an update by a price, in the unit that makes the first of them, which is the greatest, no number that is too great; the gas where there
-- is no price
abbrev pub fees_of : ℕ → ℕ × ℕ × ℕ
fees_of price = if price == 0 then gas else priced (unit_of (gas.0 * price)) price

-- the unit is the least power of ten in which the amount is at most the greatest number of a fee
pub record IsLeastUnit (amount unit : ℕ) : Type 0 where
  pub exponent : ℕ
  pub is_power : unit ≡ 10 ^ exponent
  pub fits : amount / unit ≤ max_fee
  pub least : (k : ℕ) → k < exponent → max_fee < amount / 10 ^ k
