use Rattle.std.proofs.Crossing.{frees}
use Rattle.test_plan.proofs.gang.built.Goals as goal

-- the heap frees what any thread took of it
pub build-requires-clause-alloc : goal.build-requires-clause-alloc
build-requires-clause-alloc g c κs within = frees
