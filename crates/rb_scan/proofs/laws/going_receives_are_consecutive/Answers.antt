use Rattle.rb_scan.proofs.Within.{going-consecutive}
use Rattle.rb_scan.proofs.laws.going_receives_are_consecutive.Goals as goal

pub returns : goal.returns
returns c = going-consecutive
