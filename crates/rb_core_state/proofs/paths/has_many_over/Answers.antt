use Rattle.std.proofs.Common.{true, false, sym, ◌∙◌}
use Rattle.rb_core_state.proofs.Fronts.{any_here, any_end}
use Rattle.rb_core_state.proofs.paths.has_many_over.Goals as goal

pub loop-path-preserved : goal.loop-path-preserved
loop-path-preserved g c =
    sym (any_here c.args.least c.args.paths.now c.loop-path.path-index c.path-item.result false c.loop-path-test.true c.path-item.is (sym c.has_many.ensures ∙ c.if-has_many.false)) ∙ c.loop-path.invariant

pub returns-then-has_many : goal.returns-then-has_many
returns-then-has_many g c =
    sym (any_here c.args.least c.args.paths.now c.loop-path.path-index c.path-item.result true c.loop-path-test.true c.path-item.is (sym c.has_many.ensures ∙ c.if-has_many.true)) ∙ c.loop-path.invariant

pub returns : goal.returns
returns g c = sym (any_end c.args.least c.args.paths.now c.loop-path.path-index c.loop-path-test.false) ∙ c.loop-path.invariant
