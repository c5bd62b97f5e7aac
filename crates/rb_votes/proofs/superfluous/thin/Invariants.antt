use Rattle.rb_votes.proofs.Thinning.{IsThinned}
use Rattle.rb_votes.proofs.superfluous.thin.Given as goal

abbrev pub invariant-loop-i : goal.invariant-loop-i
invariant-loop-i g l = IsThinned l.needed l.initial.votes.items l.votes.items l.i l.own l.trusted
