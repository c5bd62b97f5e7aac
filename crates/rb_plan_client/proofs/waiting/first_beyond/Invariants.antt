use Rattle.std.proofs.Common.{◌≡◌, None, fold, take}
use Rattle.std.specs.List.{flat_map}
use Rattle.rb_scan.specs.Expiry.{lesser}
use Rattle.rb_plan_client.specs.Task.{moments_beyond}
use Rattle.rb_plan_client.proofs.waiting.first_beyond.Given as goal

abbrev pub invariant-loop-path : goal.invariant-loop-path
invariant-loop-path g l = l.first ≡ fold lesser None (flat_map (moments_beyond l.job.task l.low l.reach) (take l.path-index l.path-items))
