use Rattle.rb_scan.proofs.Within.{receives-consecutive}
use Rattle.rb_scan.proofs.laws.ready_receives_are_consecutive.Goals as goal

pub returns : goal.returns
returns c = receives-consecutive
