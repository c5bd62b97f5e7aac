use Rattle.rb_step.proofs.Conditions.{answer_applies_lem}
use Rattle.rb_step.proofs.laws.answer_applies.Goals as goal

pub returns : goal.returns
returns c = answer_applies_lem
