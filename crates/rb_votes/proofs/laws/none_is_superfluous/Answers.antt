use Rattle.rb_votes.proofs.Sent.{none_superfluous}
use Rattle.rb_votes.proofs.laws.none_is_superfluous.Goals as goal

pub returns : goal.returns
returns c = none_superfluous
