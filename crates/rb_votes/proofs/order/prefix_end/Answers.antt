use Rattle.std.proofs.Common.{drop, arith}
use Rattle.rb_votes.specs.Power.{power_of}
use Rattle.rb_votes.proofs.Taken.{prefix_done}
use Rattle.rb_votes.proofs.order.prefix_end.Goals as goal

pub returns-then-left-eq0-clause-end : goal.returns-then-left-eq0-clause-end
returns-then-left-eq0-clause-end c =
    omega (arith, c.loop-i.invariant, prefix_done (power_of c.args.power) c.loop-i.left (drop c.loop-i.i c.args.voters.now.list) c.if-left-eq0.true)
