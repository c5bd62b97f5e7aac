use Rattle.std.proofs.Common.{◌≡◌, ◌++◌, drop, map}
use Rattle.std.specs.List.{enumerate_from}
use Rattle.rb_messages.specs.Updates.{planned_view, sent_as}
use Rattle.rb_messages.proofs.planned.add_batch.Given as goal

-- what is added, and what is left
abbrev pub invariant-loop-place : goal.invariant-loop-place
invariant-loop-place l =
    map planned_view l.updates.items ++ map (sent_as l.book l.config l.transactions) (enumerate_from l.place (drop l.place l.planned))
    ≡ map planned_view l.initial.updates.items ++ map (sent_as l.book l.config l.transactions) (enumerate_from 0 l.planned)
