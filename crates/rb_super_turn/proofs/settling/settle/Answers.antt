use Rattle.std.proofs.Common.{sym}
use Rattle.rb_super_turn.proofs.Plans.{id_there}
use Rattle.rb_super_turn.proofs.Steps.{client_there}
use Rattle.rb_super_turn.proofs.settling.settle.Goals as goal

pub hear-requires-clause-known : goal.hear-requires-clause-known
hear-requires-clause-known g c = client_there c.args.relayer.now c.args.settlement.client c.requires.client

pub returns-clause-report : goal.returns-clause-report
returns-clause-report g c =
    λ i. record {
      id = sym (id_there c.args.relayer.now c.args.settlement.client c.config_of-config.result c.requires.client c.config_of-config.ensures.value) i;
      batch = c.args.settlement.batch;
      done = c.args.settlement.done;
      refusal = c.in_ok-refusal.ensures.judged i;
    }
