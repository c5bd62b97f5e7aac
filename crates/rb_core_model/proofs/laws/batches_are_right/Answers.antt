use Rattle.rb_core_model.proofs.Right.{batches_right}
use Rattle.rb_core_model.proofs.laws.batches_are_right.Goals as goal

pub returns : goal.returns
returns c = batches_right c.ready_receives_are_consecutive.ensures c.going_receives_are_consecutive.ensures c.ready_is_within_reach.ensures
