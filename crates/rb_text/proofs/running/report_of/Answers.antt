use Rattle.std.proofs.Crossing.{frees}
use Rattle.rb_text.proofs.running.report_of.Goals as goal

-- the heap frees what any thread took of it
pub run_script-requires-clause-alloc : goal.run_script-requires-clause-alloc
run_script-requires-clause-alloc g c κs within = frees
