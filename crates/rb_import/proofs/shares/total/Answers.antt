use Rattle.std.proofs.Common.{ap, rules, ◌∙◌}
use Rattle.std.proofs.lemmas.List.{take_all}
use Rattle.rb_import.specs.Shares.{total}
use Rattle.rb_import.proofs.Sizing.{size_more}
use Rattle.rb_import.proofs.shares.total.Goals as goal

pub loop-size-preserved : goal.loop-size-preserved
loop-size-preserved c = search (size_more, rules)

pub returns : goal.returns
returns c = c.loop-size.invariant ∙ ap total (take_all c.loop-size.size-index c.args.sizes.now c.loop-size-test.false)
