use Rattle.rb_scan.proofs.Replaced.{timeout-replaces}
use Rattle.rb_scan.proofs.laws.timeout_replaces_receives.Goals as goal

pub returns : goal.returns
returns c = timeout-replaces
