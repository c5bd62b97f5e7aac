use Rattle.std.proofs.Common.{◌≡◌, ◌++◌, drop, map}
use Rattle.std.specs.List.{enumerate_from, flat_map}
use Rattle.rb_core.specs.Core.{state_in}
use Rattle.rb_messages.specs.Updates.{planned_view, updates_at}
use Rattle.rb_messages.proofs.planned.add_clients.Given as goal

-- what is added, and what is left
abbrev pub invariant-loop-place : goal.invariant-loop-place
invariant-loop-place l =
    map planned_view l.updates.items ++ flat_map (updates_at (state_in l.relayer).standing l.configs) (enumerate_from l.place (drop l.place l.clients))
    ≡ map planned_view l.initial.updates.items ++ flat_map (updates_at (state_in l.relayer).standing l.configs) (enumerate_from 0 l.clients)
