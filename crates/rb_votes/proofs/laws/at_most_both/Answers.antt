use Rattle.rb_votes.proofs.Sent.{sent_both}
use Rattle.rb_votes.proofs.laws.at_most_both.Goals as goal

pub returns : goal.returns
returns c = sent_both
