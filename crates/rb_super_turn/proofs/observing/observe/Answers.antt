use Rattle.rb_super_turn.proofs.Steps.{heard}
use Rattle.rb_super_turn.proofs.observing.observe.Goals as goal

pub hear-requires-clause-outside : goal.hear-requires-clause-outside
hear-requires-clause-outside g c = (heard c.args.relayer.now c.args.observation c.requires.seen).0

pub hear-requires-clause-known : goal.hear-requires-clause-known
hear-requires-clause-known g c = (heard c.args.relayer.now c.args.observation c.requires.seen).1
