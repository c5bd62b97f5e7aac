use Rattle.std.proofs.Common.{◌≡◌, ◌++◌, length, map, take}
use Rattle.rb_batch.specs.Cut.{shifted}
use Rattle.rb_batch.proofs.apart.append_behind.Given as goal

abbrev pub invariant-loop-transaction : goal.invariant-loop-transaction
invariant-loop-transaction g l = l.transactions.items ≡ l.initial.transactions.items ++ map (shifted (length l.before)) (take l.transaction-index l.behind)
