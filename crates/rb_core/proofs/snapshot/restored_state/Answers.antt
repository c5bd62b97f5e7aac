use Rattle.std.proofs.Common.{◌≡◌, nat_le, refl, sym, ap, ◌∙◌}
use Rattle.std.specs.List.{list_all}
use Rattle.rb_script_types.specs.Config.{config_view}
use Rattle.rb_core.specs.Snapshot.{snapshot_view}
use Rattle.rb_core.specs.State.{standing_view, state_view}
use Rattle.rb_core_model.specs.Begun.{max_begun}
use Rattle.rb_core_model.specs.Machine.{begun}
use Rattle.rb_core_model.specs.Snapshot.{snapshot_of}
use Rattle.rb_core_state.specs.Room.{ClientWithRoom}
use Rattle.rb_core.proofs.Restoring.{fitting_begun, found}
use Rattle.rb_core.proofs.snapshot.restored_state.Goals as goal

pub returns-clause-begun : goal.returns-clause-begun
returns-clause-begun g c =
    let config = config_view c.args.config.now in
    let known = snapshot_view c.args.snapshot.now in
    let state = c.in-Some.state in
    fitting_begun config known (state_view state) state.clients.items
    (found c.in_ok-state.field-0 state (λ s. state_view s ≡ begun config known) c.in-Some.is c.in_ok-state.ensures.state)
    (found c.in_ok-state.field-0 state (λ s. snapshot_of (standing_view s) ≡ known) c.in-Some.is c.in_ok-state.ensures.snapshot)
    refl
    (sym (c.are_few.ensures ∙ ap (list_all (λ (h : ClientWithRoom). nat_le h.client.batches max_begun)) c.as_slice.ensures.value) ∙ c.if-not-are_few.false)
    (c.is_fitting.ensures c.if-not-is_fitting.false)
