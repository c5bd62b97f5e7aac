use Rattle.rb_core_model.proofs.EveryLog.{stand_once}
use Rattle.rb_core_model.proofs.laws.messages_stand_once.Goals as goal

pub returns : goal.returns
returns c = stand_once c.finds_what_was_added.ensures c.stays_a_book.ensures c.views_are_orderly.ensures
