use Rattle.std.proofs.Common.{◌≡◌, filter, take}
use Rattle.rb_import_setup.specs.Rests.{client_stays}
use Rattle.rb_import_setup.proofs.rest.left_clients.Given as goal

-- these are those of the clients so far that stay
abbrev pub invariant-loop-client : goal.invariant-loop-client
invariant-loop-client l = l.left.items ≡ filter (client_stays l.chains l.id) (take l.client-index l.clients)
