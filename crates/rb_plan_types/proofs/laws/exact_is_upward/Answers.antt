use Rattle.rb_plan_types.proofs.OverViews
use Rattle.rb_plan_types.proofs.laws.exact_is_upward.Goals as goal

pub returns : goal.returns
returns c = OverViews.upward c.views_are_orderly.ensures
