use Rattle.rb_super.proofs.Steady.{taken_fewest}
use Rattle.rb_super.proofs.waiting.taken_updates_are_fewest.Goals as goal

pub returns : goal.returns
returns c = taken_fewest c.updates_are_fewest.ensures c.messages_stay_ready.ensures
