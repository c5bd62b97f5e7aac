use Rattle.std.proofs.Common.{◌≡◌, ◌++◌, drop}
use Rattle.std.specs.List.{flat_map}
use Rattle.rb_import.specs.Events.{header_at}
use Rattle.rb_import.proofs.chains.push_headers.Given as goal

-- what is added, and what is left
abbrev pub invariant-loop-commit : goal.invariant-loop-commit
invariant-loop-commit l =
    l.events.items ++ flat_map (header_at l.seen l.place) (drop l.commit-index l.commits)
    ≡ l.initial.events.items ++ flat_map (header_at l.seen l.place) l.commits
