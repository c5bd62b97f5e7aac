use Rattle.std.proofs.Common.{All}
use Rattle.rb_graph.specs.Frame.{IsRowOf}
use Rattle.rb_graph.proofs.Finishing.{MadeBelow}
use Rattle.rb_graph.proofs.frame.Frame.all_rows.Given as goal

abbrev pub invariant-loop-n : goal.invariant-loop-n
invariant-loop-n g l = record {
  right : All (IsRowOf l.self) l.rows.items;
  each : MadeBelow l.n l.rows.items;
}
