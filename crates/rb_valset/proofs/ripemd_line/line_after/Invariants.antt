use Rattle.std.proofs.Common.{◌≡◌}
use Rattle.rb_valset.specs.Ripemd.{after}
use Rattle.rb_valset.proofs.ripemd_line.line_after.Given as goal

abbrev pub invariant-loop-number : goal.invariant-loop-number
invariant-loop-number l = l.variables ≡ after l.line l.block l.fn.hash l.number
