use Rattle.std.proofs.Common.{◌≡◌, take}
use Rattle.rb_plan_client.proofs.job.copy_paths.Given as goal

abbrev pub invariant-loop-path : goal.invariant-loop-path
invariant-loop-path g l = l.copies.items ≡ take l.path-index l.paths
