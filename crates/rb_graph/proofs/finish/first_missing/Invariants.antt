use Rattle.rb_graph.proofs.Finishing.{Placed}
use Rattle.rb_graph.proofs.finish.first_missing.Given as goal

abbrev pub invariant-loop-place : goal.invariant-loop-place
invariant-loop-place g l = Placed l.rows l.place
