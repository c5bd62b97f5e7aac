use Rattle.rb_super.proofs.InTime.{in_time}
use Rattle.rb_super.proofs.waiting.messages_go_in_time.Goals as goal

pub returns : goal.returns
returns c = in_time c.pressing_goes.ensures
