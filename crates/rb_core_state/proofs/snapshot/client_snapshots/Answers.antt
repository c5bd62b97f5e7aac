use Rattle.std.proofs.Common.{◌≡◌, length, map, sym, ap, ◌∙◌, arith}
use Rattle.std.proofs.lemmas.List.{take_all}
use mathlib.Core.List.{map-map}
use Rattle.rb_core_model.specs.Snapshot.{snapshot_of_client}
use Rattle.rb_core_state.specs.Known.{known_client}
use Rattle.rb_core_state.specs.Room.{ClientWithRoom}
use Rattle.rb_core_state.proofs.Copied.{one_made}
use Rattle.rb_core_state.proofs.snapshot.client_snapshots.Goals as goal

pub loop-client-preserved : goal.loop-client-preserved
loop-client-preserved g c =
    let f = λ (h : ClientWithRoom). snapshot_of_client h.client in
    ap (λ xs. map known_client xs) c.in_ok-push.ensures.items
    ∙ one_made known_client f c.loop-client.known.items c.args.clients.now c.loop-client.client-index c.in_ok-snapshot.field-0 c.client-item.result c.loop-client-test.true
    (c.in_ok-snapshot.ensures ∙ ap f c.client-item.is) c.loop-client.invariant

pub returns : goal.returns
returns g c =
    let f = λ (h : ClientWithRoom). snapshot_of_client h.client in
    c.loop-client.invariant ∙ ap (λ xs. map f xs) (take_all c.loop-client.client-index c.args.clients.now (omega arith))
    ∙ sym (map-map snapshot_of_client (λ (h : ClientWithRoom). h.client) c.args.clients.now)
