-- (internal) Places in a list with one more element.
use Rattle.std.specs.Prelude.{ℕ, ◌+◌, nat_lt, if◌then◌else◌}

-- the place that an element has once another was put in at a place
abbrev pub moved : ℕ → ℕ → ℕ
moved new place = if nat_lt place new then place else place + 1
