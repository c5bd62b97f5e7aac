use Rattle.std.proofs.Common.{◌≡◌, ◌≤◌, ℕ, List, Option, Some, None, IsSome, IsSomeAnd, length, take, fold, sym, ap, ◌∙◌, subst, arith}
use Rattle.std.specs.Option.{option_and_then}
use Rattle.rb_step.specs.LightClient.{Update}
use Rattle.rb_core_state.specs.Room.{ClientWithRoom}
use Rattle.rb_core_model.specs.Standing.{OpenBatch, ClientState, count_in, after_batch, with_height}
use Rattle.rb_core_state.proofs.Places.{found_seen, of_found, seen_changed}
use Rattle.rb_core_state.proofs.Stored.{some_of, batch_room, length_take}
use Rattle.rb_core_state.proofs.clients.settle.Goals as goal

pub unwrap-batch-requires : goal.unwrap-batch-requires
unwrap-batch-requires g c =
    let h = c.index_mut-state.result.now in
    let room = of_found (λ (x : ClientWithRoom). IsSomeAnd x.client.batch (λ (b : OpenBatch). length b.updates ≤ x.room)) c.args.clients.now.items c.args.client h c.requires.within c.index_mut-state.ensures.value c.requires.room in
    subst (λ (o : Option OpenBatch). IsSome o) (sym c.close.ensures.batch) (some_of h.client.batch (λ (b : OpenBatch). length b.updates ≤ h.room) room)

pub store_all-requires : goal.store_all-requires
store_all-requires g c =
    let h = c.index_mut-state.result.now in
    let b = c.unwrap-batch.result in
    let room = of_found (λ (x : ClientWithRoom). IsSomeAnd x.client.batch (λ (b : OpenBatch). length b.updates ≤ x.room)) c.args.clients.now.items c.args.client h c.requires.within c.index_mut-state.ensures.value c.requires.room in
    let is : h.client.batch ≡ Some b = sym c.close.ensures.batch ∙ c.unwrap-batch.ensures in
    let fits : length b.updates ≤ h.room = batch_room h.client.batch (λ (x : OpenBatch). length x.updates ≤ h.room) b room is in
    let fewer = length_take (count_in b c.args.done) b.updates in
    rw c.settled_updates.ensures (omega (arith, fits, fewer, c.close.ensures.room))

pub returns-clause-batch : goal.returns-clause-batch
returns-clause-batch g c =
    let h = c.index_mut-state.result.now in
    ap (option_and_then (λ (k : ClientState). k.batch)) (found_seen (λ (x : ClientWithRoom). x.client) c.args.clients.now.items c.args.client h c.requires.within c.index_mut-state.ensures.value)
    ∙ sym c.close.ensures.batch ∙ c.unwrap-batch.ensures

pub returns-clause-clients : goal.returns-clause-clients
returns-clause-clients g c =
    let h = c.index_mut-state.result.now in
    let b = c.unwrap-batch.result in
    let e : c.store_all.new.self.client ≡ after_batch b c.args.done h.client =
    c.store_all.ensures
    ∙ (λ i. record (c.close.ensures.client i) { stored = fold (λ heights (u : Update). with_height u.height heights) (c.close.ensures.client i).stored (c.settled_updates.ensures i) }) in
    seen_changed (λ (x : ClientWithRoom). x.client) (after_batch b c.args.done) c.args.clients.now.items c.args.client h c.store_all.new.self c.requires.within c.index_mut-state.ensures.value e
