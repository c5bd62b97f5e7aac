use Rattle.std.proofs.Common.{◌≡◌, fold, map, take}
use Rattle.rb_scan.specs.Expiry.{lesser}
use Rattle.rb_plan_client.specs.Task.{press_moment}
use Rattle.rb_plan_client.proofs.waiting.first_of.Given as goal

abbrev pub invariant-loop-message : goal.invariant-loop-message
invariant-loop-message g l = l.first ≡ fold lesser l.initial.first (map (press_moment l.job.task l.waits) (take l.message-index l.messages))
