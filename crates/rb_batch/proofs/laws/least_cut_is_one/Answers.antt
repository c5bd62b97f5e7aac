use Rattle.rb_batch.proofs.Existence.{least_is_one}
use Rattle.rb_batch.proofs.laws.least_cut_is_one.Goals as goal

pub returns : goal.returns
returns c = least_is_one
