use Rattle.rb_plan_types.proofs.Seldom.{few}
use Rattle.rb_plan_types.proofs.refresh_laws.few_beside_the_least.Goals as goal

pub returns : goal.returns
returns c = few
