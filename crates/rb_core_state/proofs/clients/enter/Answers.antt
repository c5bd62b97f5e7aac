use Rattle.std.proofs.Common.{◌≡◌, ◌<◌, length, refl, ap, ◌∙◌, arith}
use Rattle.std.proofs.lemmas.List.{length-map}
use Rattle.rb_core_model.specs.Standing.{in_host_window}
use Rattle.rb_core_state.specs.Room.{ClientWithRoom, clients_of}
use Rattle.rb_core_state.proofs.Forgotten.{upto, seen-step, upto-each}
use Rattle.rb_core_state.proofs.clients.enter.Goals as goal

pub loop-client-preserved : goal.loop-client-preserved
loop-client-preserved g c =
    let initial = c.args.clients.now in
    let long = length-map initial.items (λ (h : ClientWithRoom). h.client) in
    let within : c.loop-client.client < length (clients_of initial.items) = omega (arith, c.loop-client-test.true, c.len-client-end.ensures, initial.ok.0, long) in
    seen-step (λ (h : ClientWithRoom). h.client) (λ place. in_host_window c.args.host c.args.window) c.loop-client.client (clients_of initial.items) c.loop-client.clients.items _
    c.index_mut.result.now c.enter.new.self within c.loop-client.invariant c.index_mut.ensures.value c.enter.ensures.client refl

pub returns : goal.returns
returns g c =
    let initial = c.args.clients.now in
    let change = in_host_window c.args.host c.args.window in
    let long = length-map initial.items (λ (h : ClientWithRoom). h.client) in
    let end : c.loop-client.client ≡ length (clients_of initial.items) = omega (arith, c.loop-client-test.false, c.loop-client.auto.client-end, c.len-client-end.ensures, initial.ok.0, long) in
    c.loop-client.invariant ∙ ap (λ k. upto (λ place. change) 0 k (clients_of initial.items)) end ∙ upto-each change 0 (clients_of initial.items)
