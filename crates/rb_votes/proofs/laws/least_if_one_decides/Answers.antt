use Rattle.rb_votes.proofs.Sent.{sent_least}
use Rattle.rb_votes.proofs.laws.least_if_one_decides.Goals as goal

pub returns : goal.returns
returns c = λ needed voters votes decides part passes. sent_least needed voters votes decides part passes
