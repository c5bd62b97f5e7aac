use Rattle.std.proofs.Common.{arith}
use Rattle.rb_core.proofs.Restoring.{outcomes_for, no_outcomes_for}
use Rattle.rb_core.proofs.fitting.takes_outcomes.Goals as goal

pub returns-then-config-client : goal.returns-then-config-client
returns-then-config-client c = outcomes_for c.args.config.now c.args.client (λ e. absurd (omega (arith, e)))

pub returns-else-config-client : goal.returns-else-config-client
returns-else-config-client c = no_outcomes_for c.args.config.now c.args.client (omega arith)
