use Rattle.std.proofs.Common.{◌≡◌, map, take}
use Rattle.rb_core_model.specs.Snapshot.{snapshot_of_client}
use Rattle.rb_core_state.specs.Known.{known_client}
use Rattle.rb_core_state.specs.Room.{ClientWithRoom}
use Rattle.rb_core_state.proofs.snapshot.client_snapshots.Given as goal

abbrev pub invariant-loop-client : goal.invariant-loop-client
invariant-loop-client g l = map known_client l.known.items ≡ map (λ (h : ClientWithRoom). snapshot_of_client h.client) (take l.client-index l.clients)
