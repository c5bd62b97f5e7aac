use Rattle.rb_super_turn.proofs.Steps.{client_there}
use Rattle.rb_super_turn.proofs.observing.ask.Goals as goal

pub hear-requires-clause-known : goal.hear-requires-clause-known
hear-requires-clause-known g c = client_there c.args.relayer.now c.args.asked.client c.requires.client
