use Rattle.std.proofs.Common.{◌≡◌, drop}
use Rattle.rb_script_read.specs.Work.{sums_after}
use Rattle.rb_script_read.proofs.work.sums_after.Given as goal

-- what is left is counted after what was counted
abbrev pub invariant-loop-store : goal.invariant-loop-store
invariant-loop-store l = sums_after l.sums (drop l.store-index l.stores) ≡ sums_after l.fn.work l.stores
