use Rattle.rb_votes.proofs.Sent.{sent_enough}
use Rattle.rb_votes.proofs.laws.sent_are_enough.Goals as goal

pub returns : goal.returns
returns c = sent_enough
