use Rattle.rb_scan.proofs.Within.{ready-within}
use Rattle.rb_scan.proofs.laws.ready_is_within_reach.Goals as goal

pub returns : goal.returns
returns c = ready-within
