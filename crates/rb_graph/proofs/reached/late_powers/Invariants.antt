use Rattle.std.proofs.Common.{◌≡◌, map, take}
use Rattle.rb_book.specs.Header.{Header}
use Rattle.rb_graph.specs.StoredRow.{stored_power}
use Rattle.rb_graph.proofs.reached.late_powers.Given as goal

abbrev pub invariant-loop-index : goal.invariant-loop-index
invariant-loop-index g l = l.powers.items ≡ map (λ (h : Header). stored_power l.book h l.set) (take l.index l.book.headers)
