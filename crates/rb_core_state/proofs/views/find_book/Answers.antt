use Rattle.rb_core_state.proofs.Found.{book_found}
use Rattle.rb_core_state.proofs.views.find_book.Goals as goal

pub returns : goal.returns
returns g c = book_found c.args.books.now c.args.chain c.get.result c.get.ensures.lookup
