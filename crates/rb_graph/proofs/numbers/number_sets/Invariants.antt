use Rattle.std.proofs.Common.{[], get_or, take}
use Rattle.std.specs.List.{All}
use Rattle.rb_graph.specs.Numbering.{AreNumbered}
use Rattle.rb_graph.proofs.Room.{AreOfSets}
use Rattle.rb_graph.proofs.numbers.number_sets.Given as goal

abbrev pub invariant-loop-place : goal.invariant-loop-place
invariant-loop-place g l = record {
  numbered : All (λ place. AreNumbered l.columns (get_or l.sets place [])) (take l.place-index l.place-items);
  of_sets : AreOfSets l.sets l.columns;
}

abbrev pub invariant-loop-member : goal.invariant-loop-member
invariant-loop-member g l = record {
  earlier : All (λ place. AreNumbered l.columns (get_or l.sets place [])) (take l.place-index l.place-items);
  numbered : AreNumbered l.columns (take l.member-index l.member-items);
  of_sets : AreOfSets l.sets l.columns;
}
