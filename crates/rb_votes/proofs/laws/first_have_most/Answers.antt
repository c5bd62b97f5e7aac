use Rattle.rb_votes.proofs.Sent.{first_most}
use Rattle.rb_votes.proofs.laws.first_have_most.Goals as goal

pub returns : goal.returns
returns c = first_most
