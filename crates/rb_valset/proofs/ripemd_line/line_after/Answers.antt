use Rattle.std.proofs.Common.{refl, ◌∙◌}
use Rattle.rb_valset.specs.Ripemd.{after}
use Rattle.rb_valset.proofs.RipemdLines.{after-more}
use Rattle.rb_valset.proofs.ripemd_line.line_after.Goals as goal

pub loop-number-init : goal.loop-number-init
unfolding after
loop-number-init c = refl

pub loop-number-preserved : goal.loop-number-preserved
loop-number-preserved c = c.take_step.ensures ∙ after-more c.args.line.now c.args.block.now c.args.hash _ c.loop-number.number c.loop-number.invariant
