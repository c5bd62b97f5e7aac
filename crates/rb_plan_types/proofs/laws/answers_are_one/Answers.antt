use Rattle.rb_plan_types.proofs.OverViews
use Rattle.rb_plan_types.proofs.laws.answers_are_one.Goals as goal

pub returns : goal.returns
returns c = OverViews.answers_are_one
