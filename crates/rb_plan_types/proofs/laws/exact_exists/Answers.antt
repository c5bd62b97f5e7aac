use Rattle.rb_plan_types.proofs.OverViews
use Rattle.rb_plan_types.proofs.laws.exact_exists.Goals as goal

pub returns : goal.returns
returns c = OverViews.exists c.views_are_orderly.ensures c.success_is_acceptance.ensures
