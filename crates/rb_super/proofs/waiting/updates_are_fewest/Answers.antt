use Rattle.rb_super.proofs.Fewest.{fewest}
use Rattle.rb_super.proofs.waiting.updates_are_fewest.Goals as goal

pub returns : goal.returns
returns c = fewest c.seen_is_fewest.ensures c.pressing_goes.ensures c.stays_a_book.ensures c.settled_is_not_owed.ensures
