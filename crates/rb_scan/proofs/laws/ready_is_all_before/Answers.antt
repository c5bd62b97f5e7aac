use Rattle.rb_scan.proofs.ReadyAfter.{ready_is_all_before_lem}
use Rattle.rb_scan.proofs.laws.ready_is_all_before.Goals as goal

pub returns : goal.returns
returns c = ready_is_all_before_lem
