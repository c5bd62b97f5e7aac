-- What a worker gives back.
use Rattle.std.specs.Prelude.{◌≡◌, ℕ, ◌<◌, List, [], length, All}
use Rattle.atomic_table.specs.Seated.{TableId}
use Rattle.rb_book.specs.Book.{Book}
use Rattle.rb_graph.specs.Frame.{FrameRow, IsRowOf, made}
use Rattle.rb_gang.specs.Numbers.{times}
use Rattle.rb_gang.specs.Claims.{SeatView, drawn, late}

-- a seat of this table that has drawn nothing; the table is for so many rows as the book has headers
abbrev pub IsFresh : TableId × ℕ → Book → SeatView → Type 0
IsFresh table book seat = (seat.table ≡ table.0) × (seat.knows ≡ drawn (length book.headers) seat.knows.seats [])

-- the seat is back, with the book's rows whose numbers were drawn; a number was drawn that no row has
pub record IsShift (table : TableId × ℕ) (book : Book) (seats : ℕ) (r : SeatView × List FrameRow) : Type 0 where
  pub of_table : r.0.table ≡ table.0
  pub same_seats : r.0.knows.seats ≡ seats
  pub same_rows : r.0.knows.rows ≡ length book.headers
  pub right : All (IsRowOf book) r.1
  pub each : (n : ℕ) → n < length book.headers → made n r.1 ≡ times n r.0.knows.numbers
  pub done : 0 < late r.0.knows
