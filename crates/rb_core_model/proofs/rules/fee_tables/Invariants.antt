use Rattle.std.proofs.Common.{All, take}
use Rattle.rb_base.specs.Fee.{IsFeeTable}
use Rattle.rb_script_types.specs.declared.config.ClientConfig.{ClientConfig}
use Rattle.rb_core_model.proofs.rules.fee_tables.Given as goal

abbrev pub invariant-loop-client : goal.invariant-loop-client
invariant-loop-client l = All (λ (client : ClientConfig). IsFeeTable client.fees) (take l.client-index l.clients)
