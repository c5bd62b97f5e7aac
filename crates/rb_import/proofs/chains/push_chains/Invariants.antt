use Rattle.std.proofs.Common.{◌≡◌, ◌++◌, drop}
use Rattle.std.specs.List.{enumerate_from, flat_map}
use Rattle.rb_import.specs.Events.{chain_events}
use Rattle.rb_import.proofs.chains.push_chains.Given as goal

-- what is added, and what is left
abbrev pub invariant-loop-place : goal.invariant-loop-place
invariant-loop-place l =
    l.events.items ++ flat_map (chain_events l.seen) (enumerate_from l.place (drop l.place l.seen.chains.items))
    ≡ l.initial.events.items ++ flat_map (chain_events l.seen) (enumerate_from 0 l.seen.chains.items)
