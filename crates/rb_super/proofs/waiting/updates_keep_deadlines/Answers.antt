use Rattle.rb_super.proofs.Punctual.{punctual}
use Rattle.rb_super.proofs.waiting.updates_keep_deadlines.Goals as goal

pub returns : goal.returns
returns c = punctual c.seen_is_fewest.ensures c.messages_go_in_time.ensures c.stays_a_book.ensures
