use Rattle.std.proofs.Common.{◌≤◌, get_or, ap, arith, codes}
use Rattle.rb_script_toml.specs.declared.fault.FaultName.TheVariants.{LabelOrder}
use Rattle.rb_plan_types.specs.declared.labelling.Label.{Label}
use Rattle.rb_script_toml.specs.KeyPaths.{element}
use Rattle.rb_script_toml.proofs.Steps.{fails-at}
use Rattle.rb_text_report.proofs.Labels.{rising-refused, rising-judged, increasing}
use Rattle.rb_text_report.proofs.certificate.judge_order.Goals as goal

pub returns-then-height-below-clause-read : goal.returns-then-height-below-clause-read
returns-then-height-below-clause-read c =
    let here = ap (λ (l : Label). l.height) c.index-labels-index.is in
    let low : (get_or c.args.labels.now c.loop-index.index c.index-labels-index.result).height ≤ c.loop-index.below =
    omega (arith, here, c.get-height.ensures.value, c.if-height-below.true) in
    rw (rising-refused c.args.labels.now c.loop-index.index c.loop-index.below c.loop-index.invariant c.index-labels-index.result c.loop-index-test.true low)
    (fails-at _ c.fault_at.result LabelOrder (element (codes "labels") c.loop-index.index) c.fault_at.ensures)

pub returns-clause-read : goal.returns-clause-read
returns-clause-read c = rising-judged c.args.labels.now c.loop-index.index c.loop-index.below c.loop-index.invariant c.loop-index-test.false

pub returns-clause-rising : goal.returns-clause-rising
returns-clause-rising c =
    increasing c.args.labels.now (rising-judged c.args.labels.now c.loop-index.index c.loop-index.below c.loop-index.invariant c.loop-index-test.false)
