use Rattle.std.proofs.Common.{sym, ap, ◌∙◌, count_by}
use Rattle.rb_book.specs.Book.{is_below}
use Rattle.rb_core_state.specs.Floors.{floor_or_none}
use Rattle.rb_core_state.proofs.Lowest.{count_none}
use Rattle.rb_core_state.proofs.floors.lower_count.Goals as goal

pub returns-in-None : goal.returns-in-None
returns-in-None g c = count_none c.args.book.now.records ∙ ap (λ o. count_by (is_below (floor_or_none o)) c.args.book.now.records) (sym c.in-None.is)
