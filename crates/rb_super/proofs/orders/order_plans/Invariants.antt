use Rattle.std.proofs.Common.{◌≡◌}
use Rattle.rb_super.proofs.orders.order_plans.Given as goal

abbrev pub invariant-loop-client : goal.invariant-loop-client
invariant-loop-client g l = l.relayer ≡ l.fn.relayer
