use Rattle.std.proofs.Common.{◌≡◌, sym, ap, ◌∙◌}
use Rattle.rb_book.specs.Book.{Book, heights_and_times_of}
use Rattle.rb_core_state.proofs.Found.{times_rise}
use Rattle.rb_core_state.proofs.views.times_in.Goals as goal

pub returns-clause-heights : goal.returns-clause-heights
returns-clause-heights g c = (times_rise c.book.result.now c.in_ok-list.list.items c.in_ok-list.ensures.book c.in_ok-list.ensures.value).0

pub returns-clause-times : goal.returns-clause-times
returns-clause-times g c = (times_rise c.book.result.now c.in_ok-list.list.items c.in_ok-list.ensures.book c.in_ok-list.ensures.value).1
