use Rattle.std.proofs.Common.{◌≡◌, map, take}
use Rattle.rb_graph.specs.StoredRow.{stored_power}
use Rattle.rb_graph.proofs.build.are_powers.Given as goal

abbrev pub invariant-loop-place : goal.invariant-loop-place
invariant-loop-place g l = take l.place l.signed ≡ map (stored_power l.fn.book l.fn.header) (take l.place l.fn.book.sets)
