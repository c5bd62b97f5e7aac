use Rattle.std.proofs.Common.{◌≡◌, ◌+◌, length, drop}
use Rattle.rb_votes.specs.Power.{power_of}
use Rattle.rb_votes.specs.Votes.{least_prefix}
use Rattle.rb_votes.proofs.order.prefix_end.Given as goal

abbrev pub invariant-loop-i : goal.invariant-loop-i
invariant-loop-i l =
    l.i + length (least_prefix (power_of l.power) l.left (drop l.i l.voters.list)) ≡ l.start + length (least_prefix (power_of l.power) l.needed (drop l.start l.voters.list))
