use Rattle.std.proofs.Common.{List, All, subst}
use Rattle.rb_base.specs.Fee.{IsFeeTable}
use Rattle.rb_script_types.specs.declared.config.ClientConfig.{ClientConfig}
use Rattle.rb_super_turn.proofs.AsEventsLemmas.{script}
use Rattle.rb_super_turn.proofs.scripts.read_scripts_are_scripts.Goals as goal

pub returns : goal.returns
returns g c =
    let fees = subst (λ (xs : List ClientConfig). All (λ (client : ClientConfig). IsFeeTable client.fees) xs) c.as_slice.ensures.value c.fee_tables.ensures in
    script c.args.script.now c.as_slice-2.result.now c.as_slice-2.ensures.value c.requires (record { rules = c.requires.config; fees = fees }) c.turns_have_events.ensures
