use Rattle.rb_super.proofs.Prompt.{none_waits}
use Rattle.rb_super.proofs.waiting.none_waits.Goals as goal

pub returns : goal.returns
returns c = none_waits c.stays_a_book.ensures c.none_waits.ensures
