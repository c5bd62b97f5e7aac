use Rattle.std.proofs.Common.{◌≡◌, List, [], All, sym, subst, refl}
use Rattle.rb_base.specs.Fee.{IsFeeTable}
use Rattle.rb_script_types.specs.Config.{config_view}
use Rattle.rb_script_types.specs.declared.config.ClientConfig.{ClientConfig}
use Rattle.rb_core.specs.Core.{IsFold}
use Rattle.rb_core.specs.Snapshot.{snapshot_view}
use Rattle.rb_core.specs.State.{standing_view, state_view}
use Rattle.rb_core_model.specs.Begun.{IsBegun}
use Rattle.rb_core_model.specs.Machine.{begun}
use Rattle.rb_core_model.specs.Snapshot.{Snapshot, snapshot_of}
use Rattle.rb_core.proofs.Restoring.{found}
use Rattle.rb_core.proofs.Rooms.{begun_fold}
use Rattle.rb_core.proofs.machine.Core.restored.Goals as goal

pub begun_in-requires : goal.begun_in-requires
begun_in-requires g c =
    let config = config_view c.args.config in
    let start = snapshot_view c.args.snapshot.now in
    let state = c.in-Some.state in
    let result = c.in_ok-state in
    let known = found result.field-0 state (λ s. snapshot_of (standing_view s) ≡ start) c.in-Some.is result.ensures.snapshot in
    subst (λ (x : Snapshot). IsFold config (record { start = x; events = [] }) (state_view state)) (sym known)
    (begun_fold config start (state_view state) []
    (record {
      rules = c.requires;
      fees = subst (λ (xs : List ClientConfig). All (λ (client : ClientConfig). IsFeeTable client.fees) xs) c.as_slice.ensures.value c.fee_tables.ensures;
    })
    (found result.field-0 state (λ s. IsBegun config start) c.in-Some.is result.ensures.begun)
    (found result.field-0 state (λ s. state_view s ≡ begun config start) c.in-Some.is result.ensures.state)
    refl)
