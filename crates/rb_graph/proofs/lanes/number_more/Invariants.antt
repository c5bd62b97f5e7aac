use Rattle.std.proofs.Common.{take}
use Rattle.rb_graph.specs.Numbering.{AreNumbered, Extends}
use Rattle.rb_graph.proofs.lanes.number_more.Given as goal

abbrev pub invariant-loop-member : goal.invariant-loop-member
invariant-loop-member g l = record {
  extends : Extends l.fn.columns l.columns;
  numbered : AreNumbered l.columns (take l.member-index l.member-items);
}
