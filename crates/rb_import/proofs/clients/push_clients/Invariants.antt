use Rattle.std.proofs.Common.{◌≡◌, ◌++◌, drop}
use Rattle.std.specs.List.{enumerate_from, flat_map}
use Rattle.rb_import.specs.Events.{client_events}
use Rattle.rb_import.proofs.clients.push_clients.Given as goal

-- what is added, and what is left
abbrev pub invariant-loop-place : goal.invariant-loop-place
invariant-loop-place l =
    l.events.items ++ flat_map client_events (enumerate_from l.place (drop l.place l.seen.records.items))
    ≡ l.initial.events.items ++ flat_map client_events (enumerate_from 0 l.seen.records.items)
