use Rattle.std.proofs.Common.{take}
use Rattle.rb_explain.proofs.Readiness.{NoneGoes}
use Rattle.rb_explain.proofs.idle.any_goes.Given as goal

abbrev pub invariant-loop-path : goal.invariant-loop-path
invariant-loop-path g l = NoneGoes l.job.task (take l.path-index l.paths)
