use Rattle.std.proofs.Common.{◌≡◌}
use Rattle.rb_core_model.specs.Standing.{in_host_window}
use Rattle.rb_core_state.specs.Room.{clients_of}
use Rattle.rb_core_state.proofs.Forgotten.{upto}
use Rattle.rb_core_state.proofs.clients.enter.Given as goal

abbrev pub invariant-loop-client : goal.invariant-loop-client
invariant-loop-client g l = clients_of l.clients.items ≡ upto (λ place. in_host_window l.host l.window) 0 l.client (clients_of l.initial.clients.items)
