use Rattle.std.proofs.Common.{sym, ◌∙◌}
use Rattle.rb_book.specs.Shared.{Shared}
use Rattle.rb_core_model.specs.Standing.{empty_book}
use Rattle.rb_core_state.proofs.Places.{there}
use Rattle.rb_core_state.proofs.books.book_in.Goals as goal

pub returns : goal.returns
returns g c = c.book.ensures ∙ sym (there (λ (s : Shared). s.book) c.args.books.now c.args.chain c.index-books-chain.result (empty_book 1) c.requires c.index-books-chain.is)
