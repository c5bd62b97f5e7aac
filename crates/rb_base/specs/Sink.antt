-- what a write does to a sink
use Rattle.std.specs.Prelude.{ℕ, ◌==◌, ◌≤◌, Bool, true, ◌&&◌, nat_lt, List, length, take, Result, Ok, Err, Option}
use Rattle.std.specs.Io.KnownBytes.{Appends}

-- a write of the piece failed: an error, or 0 bytes taken of a piece that has some
abbrev pub is_failure : {E : Type 0} → Result ℕ E → List ℕ → Bool
is_failure (Ok n) piece = (n == 0) && nat_lt 0 (length piece)
is_failure (Err e) piece = true

-- the bytes, where they are known, grew by a beginning of bs
abbrev pub AppendsBeginning : Option (List ℕ) → Option (List ℕ) → List ℕ → Type 0
AppendsBeginning old new bs = (n : ℕ) × (n ≤ length bs) × Appends old new (take n bs)
