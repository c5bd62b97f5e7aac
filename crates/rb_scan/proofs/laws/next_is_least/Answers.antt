use Rattle.rb_scan.proofs.Least.{next-open, next-passed}
use Rattle.rb_scan.proofs.laws.next_is_least.Goals as goal

pub returns : goal.returns
returns c = λ path kind h. (next-open path kind h, next-passed path kind)
