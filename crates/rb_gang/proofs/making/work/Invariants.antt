use Rattle.std.proofs.Common.{◌≡◌, ℕ, ◌-◌, ◌<◌, ◌≤◌, ◌⊎◌, All, length}
use Rattle.rb_graph.specs.Frame.{IsRowOf, made}
use Rattle.rb_gang.specs.Numbers.{times}
use Rattle.rb_gang.specs.Claims.{late}
use Rattle.rb_gang.proofs.making.work.Given as goal

abbrev pub invariant-loop-rows : goal.invariant-loop-rows
invariant-loop-rows g l = record {
  of_table : l.seat.table ≡ l.table.0;
  same_seats : l.seat.knows.seats ≡ l.fn.seat.knows.seats;
  same_rows : l.seat.knows.rows ≡ length l.frame.headers;
  right : All (IsRowOf l.frame) l.rows.items;
  each : (n : ℕ) → made n l.rows.items ≡ times n l.seat.knows.numbers;
  none_late : late l.seat.knows ≡ 0;
  last : (l.low ≡ 0) ⊎ (0 < times (l.low - 1) l.seat.knows.numbers);
}

abbrev pub decreases-loop-rows : goal.decreases-loop-rows
decreases-loop-rows g l = length l.frame.headers - l.low
