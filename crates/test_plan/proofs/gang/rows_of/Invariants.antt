use Rattle.std.proofs.Common.{All}
use Rattle.rb_graph.specs.Frame.{IsRowOf}
use Rattle.test_plan.proofs.gang.rows_of.Given as goal

abbrev pub invariant-loop-n : goal.invariant-loop-n
invariant-loop-n l = All (IsRowOf l.frame) l.rows.items
