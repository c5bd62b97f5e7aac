use Rattle.std.proofs.Common.{length}
use Rattle.rb_ics23.proofs.neighbours.+are_neighbours.Given as goal

abbrev pub decreases-are_neighbours : goal.decreases-are_neighbours
decreases-are_neighbours l = length l.left.now
