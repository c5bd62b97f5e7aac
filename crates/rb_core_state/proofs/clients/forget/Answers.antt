use Rattle.std.proofs.Common.{◌≡◌, ◌<◌, length, refl, ap, ◌∙◌, arith}
use Rattle.std.proofs.lemmas.List.{length-map}
use Rattle.rb_core_model.specs.Forgetting.{rest_of_client}
use Rattle.rb_core_state.specs.Floors.{floor_in}
use Rattle.rb_core_state.specs.Room.{ClientWithRoom, clients_of}
use Rattle.rb_core_state.proofs.Forgotten.{upto, seen-step, upto-each}
use Rattle.rb_core_state.proofs.clients.forget.Goals as goal

pub loop-client-preserved : goal.loop-client-preserved
loop-client-preserved g c =
    let initial = c.args.clients.now in
    let long = length-map initial.items (λ (h : ClientWithRoom). h.client) in
    let within : c.loop-client.client < length (clients_of initial.items) = omega (arith, c.loop-client-test.true, c.len-client-end.ensures, initial.ok.0, long) in
    seen-step (λ (h : ClientWithRoom). h.client) (λ place. rest_of_client (floor_in c.args.floors.now)) c.loop-client.client (clients_of initial.items) c.loop-client.clients.items _
    c.index_mut.result.now c.forget_below.new.client within c.loop-client.invariant c.index_mut.ensures.value c.forget_below.ensures refl

pub returns : goal.returns
returns g c =
    let initial = c.args.clients.now in
    let change = rest_of_client (floor_in c.args.floors.now) in
    let long = length-map initial.items (λ (h : ClientWithRoom). h.client) in
    let end : c.loop-client.client ≡ length (clients_of initial.items) = omega (arith, c.loop-client-test.false, c.loop-client.auto.client-end, c.len-client-end.ensures, initial.ok.0, long) in
    c.loop-client.invariant ∙ ap (λ k. upto (λ place. change) 0 k (clients_of initial.items)) end ∙ upto-each change 0 (clients_of initial.items)
