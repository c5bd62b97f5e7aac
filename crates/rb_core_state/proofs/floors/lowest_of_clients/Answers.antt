use Rattle.std.proofs.Common.{ap, ◌∙◌}
use Rattle.std.specs.Prelude.{None}
use Rattle.std.specs.List.{flat_map}
use Rattle.std.proofs.lemmas.List.{take_all}
use Rattle.rb_core_model.specs.Forgetting.{needs_on}
use Rattle.rb_core_state.specs.Room.{ClientWithRoom, books_of}
use Rattle.rb_core_state.specs.Floors.{lowered}
use Rattle.rb_core_state.proofs.Lowest.{lowered-next, seen_each}
use Rattle.rb_core_state.proofs.floors.lowest_of_clients.Goals as goal

pub loop-client-preserved : goal.loop-client-preserved
loop-client-preserved g c =
    lowered-next (λ (h : ClientWithRoom). needs_on c.args.window.now (books_of c.args.books.now) c.args.chain h.client) c.args.clients.now c.loop-client.client-index c.client-item.result None _ _
    c.loop-client-test.true c.client-item.is c.loop-client.invariant c.lower_on_chain-least.ensures

pub returns : goal.returns
returns g c =
    let clients = c.args.clients.now in
    let needed = needs_on c.args.window.now (books_of c.args.books.now) c.args.chain in
    c.loop-client.invariant ∙ ap (λ xs. lowered None (flat_map (λ (h : ClientWithRoom). needed h.client) xs)) (take_all c.loop-client.client-index clients c.loop-client-test.false)
    ∙ ap (lowered None) (seen_each (λ (h : ClientWithRoom). h.client) needed clients)
