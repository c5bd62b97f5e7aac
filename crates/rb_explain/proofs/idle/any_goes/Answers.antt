use Rattle.std.proofs.Common.{◌≤◌, length, arith}
use Rattle.std.proofs.lemmas.Bool.{iff_false, false≢true}
use Rattle.rb_explain.proofs.Readiness.{none_more, none_all}
use Rattle.rb_explain.proofs.idle.any_goes.Goals as goal

pub loop-path-preserved : goal.loop-path-preserved
loop-path-preserved g c =
    none_more c.args.job.now.task c.args.paths.now c.loop-path.path-index c.path-item.result c.loop-path-test.true c.path-item.is (iff_false c.in_ok-goes.ensures c.if-branch.false) c.loop-path.invariant

pub returns : goal.returns
returns g c =
    let end : length c.args.paths.now ≤ c.loop-path.path-index = omega arith in
    (λ f. absurd (false≢true f), λ any. absurd (none_all c.args.job.now.task c.args.paths.now c.loop-path.path-index end c.loop-path.invariant any))
