-- How many events a relayer takes in.
use Rattle.std.specs.Prelude.{ℕ}

-- the most events (own choice)
abbrev pub max_events : ℕ
max_events = 1000000
