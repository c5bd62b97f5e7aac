use Rattle.std.proofs.Common.{sym, ap, ◌∙◌}
use Rattle.rb_book.specs.Rest.{rest_of_book}
use Rattle.rb_core_state.specs.Floors.{floor_or_none}
use Rattle.rb_core_state.proofs.Forgotten.{rest-none}
use Rattle.rb_core_state.proofs.books.forget_below.Goals as goal

pub returns-in-None : goal.returns-in-None
returns-in-None g c = sym (rest-none c.args.book.now.book) ∙ ap (λ o. rest_of_book (floor_or_none o) c.args.book.now.book) (sym c.in-None.is)
