use Rattle.std.proofs.Common.{◌≡◌, map, take}
use Rattle.rb_core_model.specs.Snapshot.{snapshot_of_client}
use Rattle.rb_core_state.specs.Known.{known_client}
use Rattle.rb_core_state.specs.Room.{ClientWithRoom}
use Rattle.rb_script_types.specs.declared.config.ClientConfig.{ClientConfig}
use Rattle.rb_core_state.proofs.snapshot.restored_clients.Given as goal

abbrev pub invariant-loop-place : goal.invariant-loop-place
invariant-loop-place g l =
    (map (λ (h : ClientWithRoom). h.client.config) l.clients.items ≡ map (λ (c : ClientConfig). c) (take l.place l.configs))
    × (map (λ (h : ClientWithRoom). snapshot_of_client h.client) l.clients.items ≡ map known_client (take l.place l.known))
