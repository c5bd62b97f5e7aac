use Rattle.std.proofs.Common.{◌≤◌, arith}
use Rattle.rb_core_state.specs.Room.{ClientWithRoom}
use Rattle.rb_core_model.specs.Standing.{ClientState, with_height}
use Rattle.rb_core_state.proofs.Places.{of_found, seen_changed}
use Rattle.rb_core_state.proofs.clients.store.Goals as goal

pub store-requires : goal.store-requires
store-requires g c =
    let room = of_found (λ (h : ClientWithRoom). 1 ≤ h.room) c.args.clients.now.items c.args.client c.index_mut.result.now c.requires.within c.index_mut.ensures.value c.requires.room in
    omega (arith, room)

pub returns : goal.returns
returns g c =
    seen_changed (λ (h : ClientWithRoom). h.client) (λ (x : ClientState). record x { stored = with_height c.args.height x.stored }) c.args.clients.now.items c.args.client c.index_mut.result.now c.store.new.self c.requires.within c.index_mut.ensures.value c.store.ensures.client
