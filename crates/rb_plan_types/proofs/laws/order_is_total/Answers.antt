use Rattle.rb_plan_types.proofs.OverViews
use Rattle.rb_plan_types.proofs.laws.order_is_total.Goals as goal

pub returns : goal.returns
returns c = OverViews.order_is_total
