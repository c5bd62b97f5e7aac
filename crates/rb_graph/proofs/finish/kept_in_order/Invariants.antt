use Rattle.std.proofs.Common.{◌≡◌, ◌≤◌, map, vec_len, vec_capacity}
use Rattle.rb_graph.specs.Frame.{FrameRow}
use Rattle.rb_graph.proofs.finish.kept_in_order.Given as goal

abbrev pub invariant-loop-row : goal.invariant-loop-row
invariant-loop-row g l = record {
  items : l.kept.items ≡ map (λ (row : FrameRow). row.kept) l.yielded;
  room : vec_len l.fn.rows ≤ vec_capacity l.kept;
}
