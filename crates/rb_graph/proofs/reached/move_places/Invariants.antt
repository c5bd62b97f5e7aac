use Rattle.std.proofs.Common.{◌≡◌}
use Rattle.rb_book.specs.Intake.{with_set}
use Rattle.rb_graph.specs.StoredRow.{next_place}
use Rattle.rb_graph.proofs.Inserted.{written}
use Rattle.rb_graph.proofs.reached.move_places.Given as goal

abbrev pub invariant-loop-index : goal.invariant-loop-index
invariant-loop-index g l = l.places.items ≡ written (next_place l.fn.book) (next_place (with_set l.fn.book l.fn.set)) l.fn.book.records l.index
