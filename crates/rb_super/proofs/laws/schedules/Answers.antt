use Rattle.rb_super.proofs.Schedules.{schedules}
use Rattle.rb_super.proofs.laws.schedules.Goals as goal

pub returns : goal.returns
returns c = schedules c.order_gives_report.ensures
