use Rattle.std.proofs.Common.{◌≡◌, take}
use Rattle.std.specs.List.{flat_map}
use Rattle.rb_plan_client.specs.Task.{too_big_on}
use Rattle.rb_plan_client.proofs.leaving.too_big_messages.Given as goal

abbrev pub invariant-loop-path : goal.invariant-loop-path
invariant-loop-path g l = l.messages.items ≡ flat_map (too_big_on l.job.task) (take l.path-index l.path-items)
