use Rattle.rb_step.proofs.Window.{window_is_by_step_lem}
use Rattle.rb_step.proofs.laws.window_is_by_step.Goals as goal

pub returns : goal.returns
returns c = window_is_by_step_lem
