use Rattle.std.proofs.Common.{All, take}
use Rattle.rb_book.specs.Invariant.{IsBook}
use Rattle.rb_book.specs.Shared.{Shared}
use Rattle.rb_core.proofs.fitting.are_books.Given as goal

abbrev pub invariant-loop-book : goal.invariant-loop-book
invariant-loop-book g l = All (λ (s : Shared). IsBook s.book) (take l.book-index l.books)
