use Rattle.rb_core_state.specs.Room.{ClientWithRoom}
use Rattle.rb_core_state.proofs.Places.{found_seen}
use Rattle.rb_core_state.proofs.clients.client_in.Goals as goal

pub returns : goal.returns
returns g c = found_seen (λ (h : ClientWithRoom). h.client) c.args.clients.now c.args.client c.index-clients-client.result c.requires c.index-clients-client.is
