use Rattle.std.proofs.Common.{◌≡◌, map, take}
use Rattle.rb_core_state.specs.Room.{clients_of}
use Rattle.rb_core_model.specs.Standing.{new_client}
use Rattle.rb_core_state.proofs.clients.new_clients.Given as goal

abbrev pub invariant-loop-config : goal.invariant-loop-config
invariant-loop-config g l = clients_of l.clients.items ≡ map new_client (take l.config-index l.configs)
