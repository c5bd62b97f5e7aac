use Rattle.std.proofs.Crossing.{frees}
use Rattle.ibcplan.proofs.explain.explain_by.Goals as goal

-- the heap frees what any thread took of it
pub explain_script-requires-clause-alloc : goal.explain_script-requires-clause-alloc
explain_script-requires-clause-alloc g c κs within = frees
