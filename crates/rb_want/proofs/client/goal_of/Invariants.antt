use Rattle.std.specs.Prelude.{◌≡◌, [], take}
use Rattle.std.specs.List.{filter_map}
use Rattle.rb_want.specs.Needs.{goal_if}
use Rattle.rb_want.proofs.client.goal_of.Given as goal

-- none of the goals so far is of the client
abbrev pub invariant-loop-asked : goal.invariant-loop-asked
invariant-loop-asked l = filter_map (goal_if l.place) (take l.asked-index l.goals) ≡ []
