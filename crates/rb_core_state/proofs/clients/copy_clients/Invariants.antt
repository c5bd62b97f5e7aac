use Rattle.std.proofs.Common.{◌≡◌, take}
use Rattle.rb_core_state.specs.Room.{clients_of}
use Rattle.rb_core_state.proofs.clients.copy_clients.Given as goal

abbrev pub invariant-loop-client : goal.invariant-loop-client
invariant-loop-client g l = clients_of l.copies.items ≡ clients_of (take l.client-index l.clients)
