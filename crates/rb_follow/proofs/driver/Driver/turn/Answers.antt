use Rattle.std.proofs.Crossing.{frees}
use Rattle.rb_follow.proofs.driver.Driver.turn.Goals as goal

-- the heap frees what any thread took of it
pub turn-requires-clause-alloc : goal.turn-requires-clause-alloc
turn-requires-clause-alloc g c κs within = frees
