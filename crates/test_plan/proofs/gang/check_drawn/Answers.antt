use Rattle.std.proofs.Crossing.{frees}
use Rattle.test_plan.proofs.gang.check_drawn.Goals as goal

-- the heap frees what any thread took of it
pub make_rows-requires-clause-alloc : goal.make_rows-requires-clause-alloc
make_rows-requires-clause-alloc g c κs ten = frees
