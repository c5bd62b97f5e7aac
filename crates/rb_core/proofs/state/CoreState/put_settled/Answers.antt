use Rattle.std.proofs.Common.{◌≡◌, Option, Some, sym, ap, ◌∙◌}
use Rattle.std.specs.Option.{option_and_then}
use Rattle.std.specs.List.{slice_get}
use Rattle.rb_core_state.specs.Room.{clients_of, paths_of}
use Rattle.rb_core.specs.State.{standing_view, state_view}
use Rattle.rb_core_model.specs.Machine.{State}
use Rattle.rb_core_model.specs.Standing.{OpenBatch, ClientState, Standing, after_messages, after_settled, open_batch}
use Rattle.rb_core.proofs.Settled.{settled_batch}
use Rattle.rb_core.proofs.state.CoreState.put_settled.Goals as goal

pub returns : goal.returns
returns g c =
    let old = state_view c.args.self.now in
    let s = standing_view c.args.self.now in
    let is : option_and_then (λ (k : ClientState). open_batch k c.args.settled.batch) (slice_get s.clients c.args.settled.client) ≡ Some c.settle-batch.result =
    settled_batch (slice_get s.clients c.args.settled.client) c.args.settled.batch c.args.settled.done c.settle-batch.result c.requires.accepted c.settle-batch.ensures.batch in
    (λ i. record old { standing = record s { clients = c.settle-batch.ensures.clients i; paths = (c.settle_messages.ensures ∙ ap (after_messages s.paths) c.settled_messages.ensures) i } })
    ∙ sym (ap (λ (o : Option OpenBatch). record old { standing = after_settled s c.args.settled.client c.args.settled.done o }) is)
