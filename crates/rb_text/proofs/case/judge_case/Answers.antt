use Rattle.std.proofs.Crossing.{frees}
use Rattle.rb_text.proofs.case.judge_case.Goals as goal

-- the heap frees what any thread took of it
pub judge-requires-clause-alloc : goal.judge-requires-clause-alloc
judge-requires-clause-alloc g c κs within = frees
