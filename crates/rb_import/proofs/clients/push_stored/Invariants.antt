use Rattle.std.proofs.Common.{◌≡◌, ◌++◌, drop, map}
use Rattle.rb_import.specs.Events.{stored_in}
use Rattle.rb_import.proofs.clients.push_stored.Given as goal

-- what is added, and what is left
abbrev pub invariant-loop-stored : goal.invariant-loop-stored
invariant-loop-stored l =
    l.events.items ++ map (stored_in l.client) (drop l.stored-index l.records) ≡ l.initial.events.items ++ map (stored_in l.client) l.records
