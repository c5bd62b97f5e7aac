use Rattle.rb_votes.proofs.Fewest.{sent_all}
use Rattle.rb_votes.proofs.laws.too_little_sends_all.Goals as goal

pub returns : goal.returns
returns c = λ needed voters. sent_all needed voters
