use Rattle.rb_super.proofs.Alive.{kept_alive}
use Rattle.rb_super.proofs.waiting.kept_alive.Goals as goal

pub returns : goal.returns
returns c = kept_alive c.kept_alive.ensures c.turns_follow_the_rule.ensures
