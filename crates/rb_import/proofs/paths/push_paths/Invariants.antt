use Rattle.std.proofs.Common.{◌≡◌, ◌++◌, drop}
use Rattle.std.specs.List.{enumerate_from, flat_map}
use Rattle.rb_import.specs.Events.{path_at}
use Rattle.rb_import.proofs.paths.push_paths.Given as goal

-- what is added, and what is left
abbrev pub invariant-loop-place : goal.invariant-loop-place
invariant-loop-place l =
    l.events.items ++ flat_map (path_at l.seen) (enumerate_from l.place (drop l.place l.setup.paths.items))
    ≡ l.initial.events.items ++ flat_map (path_at l.seen) (enumerate_from 0 l.setup.paths.items)
