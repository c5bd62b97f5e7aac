use Rattle.std.proofs.Common.{◌≡◌, replicate}
use Rattle.rb_core_state.specs.Room.{books_of}
use Rattle.rb_core_model.specs.Standing.{empty_book}
use Rattle.rb_core_state.proofs.books.new_books.Given as goal

abbrev pub invariant-loop : goal.invariant-loop
invariant-loop g l = books_of l.books.items ≡ replicate l.counter (empty_book l.limit)
