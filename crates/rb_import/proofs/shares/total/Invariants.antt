use Rattle.std.proofs.Common.{◌≡◌, take}
use Rattle.rb_import.specs.Shares.{total}
use Rattle.rb_import.proofs.shares.total.Given as goal

-- the sizes so far
abbrev pub invariant-loop-size : goal.invariant-loop-size
invariant-loop-size l = l.sum ≡ total (take l.size-index l.sizes)
