use Rattle.std.proofs.Common.{◌≡◌, ◌++◌, drop, map, zip}
use Rattle.rb_import.specs.Scripts.{client_in}
use Rattle.rb_import.proofs.config.clients_of.Given as goal

-- the clients so far and those that are left are all
abbrev pub invariant-loop-place : goal.invariant-loop-place
invariant-loop-place l =
    l.clients.items ++ map client_in (zip (drop l.place l.setup.clients.items) (drop l.place l.seen.clients.items))
    ≡ map client_in (zip l.setup.clients.items l.seen.clients.items)
