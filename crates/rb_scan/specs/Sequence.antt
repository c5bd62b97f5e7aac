-- the sequences of packets (ICS 4: from 1; own choice: up to what 63 bits hold)
use Rattle.std.specs.Prelude.{ℕ, ◌≤◌, ◌<◌, ◌^◌}

abbrev pub IsSequence : ℕ → Type 0
IsSequence n = (1 ≤ n) × (n < 2 ^ 63)
