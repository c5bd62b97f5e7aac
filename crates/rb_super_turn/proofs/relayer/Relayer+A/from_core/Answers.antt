use Rattle.std.proofs.Common.{◌≡◌, length, sym, ap, subst, arith}
use Rattle.rb_script_types.specs.Config.{Config}
use Rattle.rb_super_turn.specs.Tables.{AreTables}
use Rattle.rb_super_turn.proofs.Kept.{tables_none}
use Rattle.rb_super_turn.proofs.relayer.Relayer+A.from_core.Goals as goal

pub invariant_of-result : goal.invariant_of-result
invariant_of-result g c =
    let same : length c.config.result.now.chains.items ≡ length c.args.core.config.chains = ap (λ (k : Config). length k.chains) c.config.ensures.value in
    subst (AreTables c.args.core) (sym c.in_ok-tables.ensures) (tables_none c.args.core c.len.result (omega (arith, c.len.ensures, c.config.result.now.chains.ok.0, same)))
