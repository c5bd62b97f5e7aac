use Rattle.std.proofs.Common.{◌≡◌, map, take}
use Rattle.rb_graph.specs.StoredRow.{stored_power}
use Rattle.rb_graph.proofs.build.stored_row_by_columns.Given as goal

abbrev pub invariant-loop-place : goal.invariant-loop-place
invariant-loop-place g l = l.signed.items ≡ map (stored_power l.fn.book l.fn.header) (take l.place l.fn.book.sets)
