use Rattle.rb_plan_client.proofs.Waits.{none_waits}
use Rattle.rb_plan_client.proofs.laws.none_waits.Goals as goal

pub returns : goal.returns
returns c = none_waits
