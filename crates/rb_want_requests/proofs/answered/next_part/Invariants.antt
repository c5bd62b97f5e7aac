use Rattle.rb_want_requests.proofs.Firsts.{AreThere}
use Rattle.rb_want_requests.proofs.answered.next_part.Given as goal

-- all parts so far are there
abbrev pub invariant-loop-before : goal.invariant-loop-before
invariant-loop-before l = AreThere l.kind l.contents l.before
