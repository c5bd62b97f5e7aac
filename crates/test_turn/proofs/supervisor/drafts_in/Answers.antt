use Rattle.std.proofs.Crossing.{frees}
use Rattle.test_turn.proofs.supervisor.drafts_in.Goals as goal

-- the heap frees what any thread took of it
pub drafts-requires-clause-alloc : goal.drafts-requires-clause-alloc
drafts-requires-clause-alloc g c κs within = frees
