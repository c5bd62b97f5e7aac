-- the moments from one to another, both included
use Rattle.std.specs.Prelude.{ℕ, ◌≤◌}

pub record Span : Type 0 where
  pub from : ℕ
  pub until : ℕ

abbrev pub IsWithin : Span → ℕ → Type 0
IsWithin s moment = (s.from ≤ moment) × (moment ≤ s.until)
