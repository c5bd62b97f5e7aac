use Rattle.rb_step.proofs.CarriedBy.{least_fee_is_least_lem}
use Rattle.rb_step.proofs.laws.least_fee_is_least.Goals as goal

pub returns : goal.returns
returns c = least_fee_is_least_lem
