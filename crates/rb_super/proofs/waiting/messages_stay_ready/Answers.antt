use Rattle.rb_super.proofs.Steady.{stay_ready}
use Rattle.rb_super.proofs.waiting.messages_stay_ready.Goals as goal

pub returns : goal.returns
returns c = stay_ready c.stays_a_book.ensures
