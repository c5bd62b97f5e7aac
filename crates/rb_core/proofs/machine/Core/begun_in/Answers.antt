use Rattle.std.proofs.Common.{◌≡◌, List, sym, ap, ◌∙◌, subst}
use Rattle.std.specs.Arc.{arc_value}
use Rattle.rb_script_types.specs.Config.{config_view}
use Rattle.rb_core.specs.Core.{IsFold}
use Rattle.rb_core.specs.State.{standing_view, state_view}
use Rattle.rb_core_model.specs.Entry.{Logged, log_from}
use Rattle.rb_core_model.specs.Machine.{State}
use Rattle.rb_core_model.specs.Snapshot.{Snapshot, snapshot_of}
use Rattle.rb_core.proofs.machine.Core.begun_in.Goals as goal

pub invariant_of-result : goal.invariant_of-result
invariant_of-result g c =
    let config = config_view c.args.config in
    let same : standing_view (arc_value c.in_ok-begun.begun) ≡ standing_view c.args.state = ap standing_view c.in_ok-begun.ensures.ok ∙ ap (λ (s : State). s.standing) c.in_ok-copy_state.ensures in
    subst (λ (p : Snapshot × List Logged). IsFold config (log_from config p.0 p.1) (state_view c.args.state)) (λ i. (snapshot_of (sym same i), sym c.new-2.ensures.items i)) c.requires

pub returns-clause-log : goal.returns-clause-log
returns-clause-log g c =
    let config = config_view c.args.config in
    let same : standing_view (arc_value c.in_ok-begun.begun) ≡ standing_view c.args.state = ap standing_view c.in_ok-begun.ensures.ok ∙ ap (λ (s : State). s.standing) c.in_ok-copy_state.ensures in
    (λ i. log_from config (snapshot_of (same i)) (c.new-2.ensures.items i))
