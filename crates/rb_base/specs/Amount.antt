-- the ranges of heights, moments and lengths of time (own choice: what 63 bits hold, and 10^20 nanoseconds)
use Rattle.std.specs.Prelude.{ℕ, ◌≤◌, ◌<◌, ◌^◌}

-- a block's height, from 1 (CometBFT: the first block has height 1)
abbrev pub IsHeight : ℕ → Type 0
IsHeight n = (1 ≤ n) × (n < 2 ^ 63)

-- nanoseconds since 1970-01-01T00:00:00Z
abbrev pub IsMoment : ℕ → Type 0
IsMoment n = n ≤ 10 ^ 20

-- a length of time in nanoseconds
abbrev pub IsPeriod : ℕ → Type 0
IsPeriod n = (1 ≤ n) × (n < 2 ^ 63)
