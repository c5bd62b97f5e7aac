use Rattle.std.proofs.Common.{◌≡◌, subst}
use Rattle.std.specs.Option.{option_copied}
use Rattle.rb_core_model.specs.Standing.{batch_open}
use Rattle.rb_core_model.specs.Machine.{State}
use Rattle.rb_super_turn.proofs.Steps.{state_seen}
use Rattle.rb_super_turn.proofs.relayer.Relayer.open_batch.Goals as goal

pub returns : goal.returns
returns g c =
    subst (λ (s : State). option_copied c.open_batch.result ≡ batch_open s.standing c.args.client)
    (state_seen c.core.result.now (g.M.Machine.seen_as c.self.inside.machine) _ c.core.ensures.config c.core.ensures.log c.self.view_is) c.open_batch.ensures
