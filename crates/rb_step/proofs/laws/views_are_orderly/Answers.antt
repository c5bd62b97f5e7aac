use Rattle.rb_step.proofs.Orderly.{views_are_orderly_lem}
use Rattle.rb_step.proofs.laws.views_are_orderly.Goals as goal

pub returns : goal.returns
returns c = views_are_orderly_lem
