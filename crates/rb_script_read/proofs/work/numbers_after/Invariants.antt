use Rattle.std.proofs.Common.{◌≡◌, drop}
use Rattle.rb_script_read.specs.Work.{numbers_after}
use Rattle.rb_script_read.proofs.work.numbers_after.Given as goal

-- what is left is counted after what was counted
abbrev pub invariant-loop-store : goal.invariant-loop-store
invariant-loop-store l = numbers_after l.numbers (drop l.store-index l.stores) ≡ numbers_after l.fn.space l.stores
