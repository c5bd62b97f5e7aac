use Rattle.std.proofs.Common.{◌≡◌, ◌*◌, length, take}
use Rattle.std.specs.Simd.Lanes.{sum_l}
use Rattle.rb_lanes.specs.Lanes.{bits_of}
use Rattle.rb_lanes.proofs.Masked.{masked_from, at}
use Rattle.rb_lanes.proofs.sums.masked_sum_from.Given as goal

abbrev pub invariant-loop-step : goal.invariant-loop-step
invariant-loop-step g l = record {
  long : length l.chosen_powers ≡ 8;
  so_far : sum_l l.chosen_powers ≡ masked_from (at (bits_of l.bytes)) 0 (take (8 * l.step) l.by_column);
}

abbrev pub invariant-loop-column : goal.invariant-loop-column
invariant-loop-column g l = l.sum ≡ masked_from (at (bits_of l.bytes)) 0 (take l.column l.by_column)
