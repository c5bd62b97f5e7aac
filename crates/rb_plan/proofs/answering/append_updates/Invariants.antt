use Rattle.std.proofs.Common.{◌≡◌, ◌++◌, map, take}
use Rattle.rb_plan_client.specs.Task.{gas_of}
use Rattle.rb_plan.proofs.answering.append_updates.Given as goal

abbrev pub invariant-loop-update : goal.invariant-loop-update
invariant-loop-update g l = l.gases.items ≡ l.initial.gases.items ++ map (gas_of l.job.task) (take l.update-index l.updates)
