-- The rule of the claim table: each number below the count was drawn once, and no other.
use Rattle.std.specs.Prelude.{◌≡◌, ℕ, ◌+◌, ◌-◌, ◌^◌, ◌<◌, ◌≤◌, List, [], ◌∷◌, ◌++◌, sum_by}
use mathlib.Core.Option.{some}
use lib.ListN.{get_elem?}
use Rattle.atomic_table.specs.Table.{State, Me}
use Rattle.atomic_table.specs.Seated.{TableId}
use Rattle.rb_gang.specs.declared.table.Drawn.{Drawn}
use Rattle.rb_gang.specs.Numbers.{times, once_below, not_below}

abbrev pub drawn : ℕ → ℕ → List ℕ → Drawn
drawn rows seats numbers = record { rows = rows; seats = seats; numbers = numbers }

-- the view after the number n was drawn
abbrev pub drew : Drawn → ℕ → Drawn
drew v n = drawn v.rows v.seats (v.numbers ++ n ∷ [])

-- how many numbers were drawn that no row has
abbrev pub late : Drawn → ℕ
late v = not_below v.rows v.numbers

-- A view knows the row count, and each seat that it stands for has drawn at most one number that no row has. A view that was joined has nothing left
pub record Fits (rows : ℕ) (v : Drawn) : Type 0 where
  pub rows_are : 0 < v.seats → v.rows ≡ rows
  pub late_are : not_below rows v.numbers ≤ v.seats
  pub spent : v.seats ≡ 0 → v.numbers ≡ []

pub record Claimed (rows : ℕ) (s : State (Unit {0}) Drawn) : Type 0 where
  pub count : ℕ
  pub words : s.words ≡ count ∷ rows ∷ []
  pub room : rows < 2 ^ 63
  pub seats : sum_by (λ (v : Drawn). v.seats) s.views ≡ 64
  pub once : (x : ℕ) → sum_by (λ (v : Drawn). times x v.numbers) s.views ≡ once_below x count
  pub beyond : sum_by (λ (v : Drawn). not_below rows v.numbers) s.views ≡ count - rows
  pub each : (seat : ℕ) (v : Drawn) → get_elem? s.views seat ≡ some v → Fits rows v

-- the number found is drawn, and above all that this seat drew before
abbrev pub Drew : Me (Unit {0}) Drawn → ℕ → Me (Unit {0}) Drawn → Type 0
Drew before found after = (after ≡ (drew before.0 found, before.1)) × ((x : ℕ) → 0 < times x before.0.numbers → x < found)

-- who stands for all seats knows each number that was drawn
abbrev pub Whole : Me (Unit {0}) Drawn → ℕ → Me (Unit {0}) Drawn → Type 0
Whole before found after = (after ≡ before) × (before.0.seats ≡ 64 → (x : ℕ) → times x before.0.numbers ≡ once_below x found)

-- which table a seat is of, and what it knows
pub record SeatView : Type 0 where
  pub table : TableId
  pub knows : Drawn
