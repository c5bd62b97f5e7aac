use Rattle.rb_scan.proofs.Along.{all_along}
use Rattle.rb_scan.proofs.laws.all_go_along.Goals as goal

pub returns : goal.returns
returns c = all_along
