-- (internal) Rows by rising number.
use Rattle.std.specs.Prelude.{◌≡◌, ℕ, ◌<◌, List, length, All, slice_index_or}
use Rattle.std.specs.List.Sorted.{IsNonDecreasingBy}
use Rattle.rb_graph.specs.Frame.{FrameRow}

-- the numbers don't fall
abbrev pub AreOrdered : List FrameRow → Type 0
AreOrdered rows = IsNonDecreasingBy (λ (row : FrameRow). row.number) rows

-- so many rows may be there
abbrev pub AreBelow : ℕ → List FrameRow → Type 0
AreBelow total rows = All (λ (row : FrameRow). row.number < total) rows

-- so many rows are there, each at the place of its number
abbrev pub AreInPlace : ℕ → List FrameRow → Type 0
AreInPlace total rows = (length rows ≡ total) × ((i : ℕ) (d : FrameRow) → i < total → (slice_index_or rows i d).number ≡ i)
