use Rattle.rb_plan_types.proofs.OverViews
use Rattle.rb_plan_types.proofs.laws.sound_bounds.Goals as goal

pub returns : goal.returns
returns c = OverViews.sound_bounds c.views_are_orderly.ensures
