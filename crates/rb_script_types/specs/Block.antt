-- heights of blocks that packets are written in (ICS 4; the range is own)
use Rattle.std.specs.Prelude.{ℕ, ◌+◌, ◌^◌, ◌≤◌, ◌<◌}

-- the next height is a height too
abbrev pub IsBlockHeight : ℕ → Type 0
IsBlockHeight n = (1 ≤ n) × (n + 1 < 2 ^ 63)
