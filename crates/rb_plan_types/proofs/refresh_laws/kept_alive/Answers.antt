use Rattle.rb_plan_types.proofs.Alive.{stays_live}
use Rattle.rb_plan_types.proofs.refresh_laws.kept_alive.Goals as goal

pub returns : goal.returns
returns c = stays_live
