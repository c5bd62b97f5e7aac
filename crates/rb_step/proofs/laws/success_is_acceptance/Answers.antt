use Rattle.rb_step.proofs.Success.{success_within}
use Rattle.rb_step.proofs.laws.success_is_acceptance.Goals as goal

pub returns : goal.returns
returns c = success_within
