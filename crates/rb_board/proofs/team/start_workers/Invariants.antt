use Rattle.std.proofs.Common.{◌≤◌, length, vec_capacity}
use Rattle.rb_board.proofs.team.start_workers.Given as goal

abbrev pub invariant-loop : goal.invariant-loop
invariant-loop g l = record {
  count : length l.workers.items ≤ l.counter;
  room : l.count ≤ vec_capacity l.workers;
}
