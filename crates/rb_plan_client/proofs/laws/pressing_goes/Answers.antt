use Rattle.rb_plan_client.proofs.Pressing.{pressing_goes}
use Rattle.rb_plan_client.proofs.laws.pressing_goes.Goals as goal

pub returns : goal.returns
returns c = pressing_goes c.ready_is_within_reach.ensures
