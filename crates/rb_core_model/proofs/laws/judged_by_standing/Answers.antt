use Rattle.rb_core_model.proofs.Steps.{judged_by_standing}
use Rattle.rb_core_model.proofs.laws.judged_by_standing.Goals as goal

pub returns : goal.returns
returns c = judged_by_standing
