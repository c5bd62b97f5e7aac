use Rattle.std.proofs.Common.{ap, ◌∙◌}
use Rattle.rb_core_state.specs.Room.{ClientWithRoom, clients_of}
use Rattle.rb_core_state.proofs.Copied.{one_more}
use Rattle.rb_core_state.proofs.clients.copy_clients.Goals as goal

pub loop-client-preserved : goal.loop-client-preserved
loop-client-preserved g c =
    let f = λ (h : ClientWithRoom). h.client in
    ap clients_of c.in_ok-push.ensures.items
    ∙ one_more f c.loop-client.copies.items c.args.clients.now c.loop-client.client-index c.in_ok-copy.field-0 c.client-item.result c.loop-client-test.true
    (c.in_ok-copy.ensures ∙ ap f c.client-item.is) c.loop-client.invariant
