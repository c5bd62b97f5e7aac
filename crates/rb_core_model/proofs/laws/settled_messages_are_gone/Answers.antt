use Rattle.rb_core_model.proofs.EveryLog.{settled_gone}
use Rattle.rb_core_model.proofs.laws.settled_messages_are_gone.Goals as goal

pub returns : goal.returns
returns c = settled_gone c.settled_is_not_owed.ensures
