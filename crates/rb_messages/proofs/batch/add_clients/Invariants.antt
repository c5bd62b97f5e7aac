use Rattle.std.proofs.Common.{◌≡◌, ◌++◌, drop, map}
use Rattle.std.specs.List.{enumerate_from, flat_map}
use Rattle.rb_core.specs.Core.{state_in}
use Rattle.rb_messages.specs.Batches.{batch_view, batches_at}
use Rattle.rb_messages.proofs.batch.add_clients.Given as goal

-- what is added, and what is left
abbrev pub invariant-loop-place : goal.invariant-loop-place
invariant-loop-place l =
    map batch_view l.batches.items ++ flat_map (batches_at (state_in l.relayer).standing l.configs) (enumerate_from l.place (drop l.place l.clients))
    ≡ map batch_view l.initial.batches.items ++ flat_map (batches_at (state_in l.relayer).standing l.configs) (enumerate_from 0 l.clients)
