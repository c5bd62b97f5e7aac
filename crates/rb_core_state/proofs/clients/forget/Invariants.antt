use Rattle.std.proofs.Common.{◌≡◌}
use Rattle.rb_core_model.specs.Forgetting.{rest_of_client}
use Rattle.rb_core_state.specs.Floors.{floor_in}
use Rattle.rb_core_state.specs.Room.{clients_of}
use Rattle.rb_core_state.proofs.Forgotten.{upto}
use Rattle.rb_core_state.proofs.clients.forget.Given as goal

abbrev pub invariant-loop-client : goal.invariant-loop-client
invariant-loop-client g l = clients_of l.clients.items ≡ upto (λ place. rest_of_client (floor_in l.floors)) 0 l.client (clients_of l.initial.clients.items)
