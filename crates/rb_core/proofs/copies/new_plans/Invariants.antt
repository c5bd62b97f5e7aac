use Rattle.std.proofs.Common.{◌≡◌, replicate}
use Rattle.rb_core.proofs.copies.new_plans.Given as goal

abbrev pub invariant-loop : goal.invariant-loop
invariant-loop g l = l.plans.items ≡ replicate l.counter 0
