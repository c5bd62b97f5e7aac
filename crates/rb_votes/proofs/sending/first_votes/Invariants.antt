use Rattle.std.proofs.Common.{◌≡◌, take}
use Rattle.rb_votes.proofs.sending.first_votes.Given as goal

abbrev pub invariant-loop-i : goal.invariant-loop-i
invariant-loop-i g l = l.votes.items ≡ take l.i l.voters.list
