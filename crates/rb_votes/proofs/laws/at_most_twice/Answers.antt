use Rattle.rb_votes.proofs.Sent.{sent_twice}
use Rattle.rb_votes.proofs.laws.at_most_twice.Goals as goal

pub returns : goal.returns
returns c = sent_twice
