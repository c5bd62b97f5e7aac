use Rattle.std.proofs.Common.{◌≡◌, take}
use Rattle.std.specs.List.{flat_map}
use Rattle.rb_explain.specs.Waiting.{owed_on}
use Rattle.rb_explain.proofs.waiting.owed_messages.Given as goal

abbrev pub invariant-loop-task : goal.invariant-loop-task
invariant-loop-task g l = l.messages.items ≡ flat_map (owed_on l.job.task l.reach) (take l.task-index l.task-items)
