use Rattle.rb_votes.proofs.Fewest.{least_own}
use Rattle.rb_votes.proofs.laws.own_test_is_least.Goals as goal

pub returns : goal.returns
returns c = λ needed voters. least_own needed voters
