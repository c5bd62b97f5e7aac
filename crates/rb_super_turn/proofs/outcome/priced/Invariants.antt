use Rattle.std.proofs.Common.{◌≡◌, map, take}
use Rattle.rb_super_turn.specs.Turns.{priced}
use Rattle.rb_super_turn.specs.Views.{priced_view}
use Rattle.rb_super_turn.proofs.outcome.priced.Given as goal

abbrev pub invariant-loop-update : goal.invariant-loop-update
invariant-loop-update g l = map priced_view l.priced.items ≡ map (priced l.job.task) (take l.update-index l.updates)
