use Rattle.std.proofs.Common.{◌≡◌}
use Rattle.rb_book.specs.Intake.{with_record}
use Rattle.rb_graph.specs.StoredRow.{stored_row_of}
use Rattle.rb_graph.proofs.Inserted.{written}
use Rattle.rb_graph.proofs.reached.add_cells.Given as goal

abbrev pub invariant-loop-place : goal.invariant-loop-place
invariant-loop-place g l = l.rows ≡ written (stored_row_of l.book) (stored_row_of (with_record l.book l.height l.entry)) l.book.headers l.place
