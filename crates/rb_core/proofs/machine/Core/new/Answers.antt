use Rattle.std.proofs.Common.{List, All, subst}
use Rattle.rb_base.specs.Fee.{IsFeeTable}
use Rattle.rb_script_types.specs.Config.{config_view}
use Rattle.rb_script_types.specs.declared.config.ClientConfig.{ClientConfig}
use Rattle.rb_core.proofs.Rooms.{new_fold}
use Rattle.rb_core.proofs.machine.Core.new.Goals as goal

pub invariant_of-result : goal.invariant_of-result
invariant_of-result g c =
    new_fold (config_view c.args.config) _ _ c.requires
    (subst (λ (xs : List ClientConfig). All (λ (client : ClientConfig). IsFeeTable client.fees) xs) c.as_slice.ensures.value c.fee_tables.ensures)
    c.in_ok-state.ensures c.new.ensures.items
