use Rattle.rb_core_model.proofs.EveryLog.{in_one_batch}
use Rattle.rb_core_model.proofs.laws.messages_are_in_one_batch.Goals as goal

pub returns : goal.returns
returns c = in_one_batch c.settled_is_not_owed.ensures
