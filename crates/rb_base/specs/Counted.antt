-- what a clause sees of a `Counted`: the writer's bytes, how many were taken through it, and whether a write failed
use Rattle.std.specs.Prelude.{ℕ, ◌+◌, ◌^◌, ◌-◌, min, List, Option, Bool, Result, Ok, Err}
use Rattle.rb_base.specs.declared.sink.Counted.{Counted}

abbrev pub counted_bytes : {W : Type 0} → (W → Option (List ℕ)) → Counted W → Option (List ℕ)
counted_bytes contents c = contents c.inner

abbrev pub counted_number : {W : Type 0} → Counted W → ℕ
counted_number c = c.count

abbrev pub counted_failed : {W : Type 0} → Counted W → Bool
counted_failed c = c.failed

-- the number after a write: what it took is added, and the number stops at 2^64 - 1
abbrev pub number_after : {E : Type 0} → ℕ → Result ℕ E → ℕ
number_after before (Ok n) = min (before + n) (2 ^ 64 - 1)
number_after before (Err e) = before
