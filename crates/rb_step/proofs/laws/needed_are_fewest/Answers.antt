use Rattle.rb_step.proofs.Accepted.{needed_are_fewest_lem}
use Rattle.rb_step.proofs.laws.needed_are_fewest.Goals as goal

pub returns : goal.returns
returns c = needed_are_fewest_lem
