use Rattle.std.proofs.Common.{◌≡◌, take}
use Rattle.rb_core_state.specs.Room.{books_of}
use Rattle.rb_core_state.proofs.books.share_books.Given as goal

abbrev pub invariant-loop-book : goal.invariant-loop-book
invariant-loop-book g l = books_of l.shared.items ≡ books_of (take l.book-index l.books)
