use Rattle.rb_votes.proofs.Sent.{sent_part}
use Rattle.rb_votes.proofs.laws.sent_are_voters.Goals as goal

pub returns : goal.returns
returns c = sent_part
