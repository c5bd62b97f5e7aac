-- The rows of a step table one by one, and when they are all its rows (own choice of form).
use Rattle.std.specs.Prelude.{◌≡◌, ℕ, ◌<◌, ◌≤◌, ◌==◌, List, map, count_by, Some, slice_get}
use Rattle.rb_book.specs.Book.{Book}
use Rattle.rb_graph.specs.StoredRow.{StoredRow, stored_row_of}

-- a row by itself: its number, and what the table keeps of the header at that place
pub record FrameRow : Type 0 where
  pub number : ℕ
  pub kept : StoredRow

-- what the table keeps of a book's headers, by their places
abbrev pub kept_rows : Book → List StoredRow
kept_rows b = map (stored_row_of b) b.headers

-- the book has a row of this number, and this is it
abbrev pub IsRowOf : Book → FrameRow → Type 0
IsRowOf b row = slice_get (kept_rows b) row.number ≡ Some row.kept

-- how many of the rows have a number
abbrev pub made : ℕ → List FrameRow → ℕ
made n rows = count_by (λ (row : FrameRow). row.number == n) rows

-- of so many rows each is there once
abbrev pub IsWhole : ℕ → List FrameRow → Type 0
IsWhole total rows = (n : ℕ) → n < total → made n rows ≡ 1

-- more than one of the rows has the number, and this is so of no lower one
pub record IsFirstTwice (rows : List FrameRow) (n : ℕ) : Type 0 where
  pub twice : 1 < made n rows
  pub first : (m : ℕ) → m < n → made m rows ≤ 1

-- no number stands twice, none of the rows has this one, and each lower one is there
pub record IsFirstMissing (total : ℕ) (rows : List FrameRow) (n : ℕ) : Type 0 where
  pub within : n < total
  pub once : (m : ℕ) → made m rows ≤ 1
  pub missing : made n rows ≡ 0
  pub first : (m : ℕ) → m < n → made m rows ≡ 1
