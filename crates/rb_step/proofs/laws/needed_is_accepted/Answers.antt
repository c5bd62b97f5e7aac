use Rattle.rb_step.proofs.Accepted.{needed_is_accepted_lem}
use Rattle.rb_step.proofs.laws.needed_is_accepted.Goals as goal

pub returns : goal.returns
returns c = needed_is_accepted_lem
