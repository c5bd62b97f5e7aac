use Rattle.std.proofs.Common.{◌≡◌, subst}
use Rattle.rb_core_model.specs.Machine.{State, is_scanned}
use Rattle.rb_super_turn.proofs.Steps.{state_seen}
use Rattle.rb_super_turn.proofs.relayer.Relayer.is_scanned.Goals as goal

pub returns : goal.returns
returns g c =
    subst (λ (s : State). c.is_scanned.result ≡ is_scanned s c.args.path c.args.part)
    (state_seen c.core.result.now (g.M.Machine.seen_as c.self.inside.machine) _ c.core.ensures.config c.core.ensures.log c.self.view_is) c.is_scanned.ensures
