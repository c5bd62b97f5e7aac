use Rattle.rb_core.proofs.Restoring.{receives_for}
use Rattle.rb_core.proofs.fitting.takes_receives.Goals as goal

pub returns : goal.returns
returns c = receives_for c.args.config.now c.args.client
