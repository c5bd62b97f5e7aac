use Rattle.std.proofs.Crossing.{frees}
use Rattle.rb_super.proofs.orders.plan_order.Goals as goal

-- the heap frees what any thread took of it
pub table_for-requires-clause-alloc : goal.table_for-requires-clause-alloc
table_for-requires-clause-alloc g c κs within = frees
