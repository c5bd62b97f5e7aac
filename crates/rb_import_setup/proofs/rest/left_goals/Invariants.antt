use Rattle.std.proofs.Common.{◌≡◌, take}
use Rattle.rb_import_setup.specs.Rests.{left_goals}
use Rattle.rb_import_setup.proofs.rest.left_goals.Given as goal

-- these are those of the goals so far whose clients stay
abbrev pub invariant-loop-goal : goal.invariant-loop-goal
invariant-loop-goal l = l.left.items ≡ left_goals l.clients (take l.goal-index l.goals)
