use Rattle.std.proofs.Common.{◌≡◌, ◌≤◌, length, vec_capacity, All}
use Rattle.rb_board.proofs.opening.seat_desks.Given as goal

abbrev pub invariant-loop : goal.invariant-loop
invariant-loop g l = record {
  same : l.pen ≡ l.initial.pen;
  each : All (λ d. d ≡ record { config = l.initial.pen.config; seen = l.initial.pen.published; told = 0 }) l.all.items;
  count : length l.all.items ≤ l.counter;
  room : l.desks ≤ vec_capacity l.all;
}
