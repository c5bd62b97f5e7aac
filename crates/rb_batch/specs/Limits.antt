-- what a transaction may carry (own choice of the ranges): a gas limit, which counts the transaction's own
-- gas too, a limit of the number of messages, and the transaction's own gas
use Rattle.std.specs.Prelude.{ℕ, ◌+◌, ◌^◌, ◌<◌, ◌≤◌}

pub record TransactionLimits : Type 0 where
  pub gas : ℕ
  pub count : ℕ
  pub transaction_gas : ℕ

pub record IsLimits (limits : TransactionLimits) : Type 0 where
  pub some_gas : 1 ≤ limits.gas
  pub gas : limits.gas ≤ 10 ^ 15
  pub some : 1 ≤ limits.count
  pub count : limits.count ≤ 10000
  pub transaction_gas : limits.transaction_gas ≤ 10 ^ 9

abbrev pub IsMessageGas : ℕ → Type 0
IsMessageGas gas = gas ≤ 10 ^ 15

-- a message of this gas is over the gas limit alone
abbrev pub IsTooBig : TransactionLimits → ℕ → Type 0
IsTooBig limits gas = limits.gas < gas + limits.transaction_gas
