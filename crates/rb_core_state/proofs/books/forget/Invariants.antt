use Rattle.std.proofs.Common.{◌≡◌}
use Rattle.rb_book.specs.Rest.{rest_of_book}
use Rattle.rb_core_state.specs.Floors.{floor_in}
use Rattle.rb_core_state.specs.Room.{books_of}
use Rattle.rb_core_state.proofs.Forgotten.{upto}
use Rattle.rb_core_state.proofs.books.forget.Given as goal

abbrev pub invariant-loop-chain : goal.invariant-loop-chain
invariant-loop-chain g l =
    books_of l.books.items ≡ upto (λ chain b. rest_of_book (floor_in l.floors chain) b) 0 l.chain (books_of l.initial.books.items)
