use Rattle.rb_votes.proofs.Fewest.{alone_own}
use Rattle.rb_votes.proofs.laws.own_test_decides.Goals as goal

pub returns : goal.returns
returns c = λ needed voters. alone_own needed voters
