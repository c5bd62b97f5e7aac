use Rattle.rb_super_turn.proofs.Order.{order}
use Rattle.rb_super.proofs.laws.order_gives_report.Goals as goal

pub returns : goal.returns
returns c = order
