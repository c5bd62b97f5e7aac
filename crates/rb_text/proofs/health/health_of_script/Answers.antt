use Rattle.std.proofs.Crossing.{frees}
use Rattle.rb_text.proofs.health.health_of_script.Goals as goal

-- the heap frees what any thread took of it
pub run_to_end-requires-clause-alloc : goal.run_to_end-requires-clause-alloc
run_to_end-requires-clause-alloc g c κs within = frees
