use Rattle.std.proofs.Common.{◌≡◌}
use Rattle.rb_book.specs.Intake.{with_set}
use Rattle.rb_graph.specs.StoredRow.{stored_row_of}
use Rattle.rb_graph.proofs.Inserted.{written}
use Rattle.rb_graph.proofs.reached.enter_powers.Given as goal

abbrev pub invariant-loop-index : goal.invariant-loop-index
invariant-loop-index g l = l.rows ≡ written (stored_row_of l.book) (stored_row_of (with_set l.book l.set)) l.book.headers l.index
