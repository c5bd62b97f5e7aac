use Rattle.std.proofs.Common.{Some}
use Rattle.rb_core_state.specs.Room.{ClientWithRoom}
use Rattle.rb_core_model.specs.Standing.{ClientState}
use Rattle.rb_core_state.proofs.Places.{seen_changed}
use Rattle.rb_core_state.proofs.clients.ask.Goals as goal

pub returns : goal.returns
returns g c =
    seen_changed (λ (h : ClientWithRoom). h.client) (λ (x : ClientState). record x { asked = Some c.args.goal }) c.args.clients.now.items c.args.client c.index_mut.result.now c.ask.new.self c.requires c.index_mut.ensures.value c.ask.ensures.client
