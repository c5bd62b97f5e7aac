use Rattle.std.proofs.Common.{take}
use Rattle.rb_votes.proofs.Counted.{IsCounted}
use Rattle.rb_votes.proofs.superfluous.thinned_len.Given as goal

abbrev pub invariant-loop-i : goal.invariant-loop-i
invariant-loop-i l = IsCounted l.needed (take l.count l.voters.list) l.i l.own l.trusted l.left
