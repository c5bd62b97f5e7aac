use Rattle.std.proofs.Common.{◌≡◌, ◌+◌, ◌≤◌, length, take, fold, vec_len, vec_capacity}
use Rattle.std.specs.List.Sorted.{IsStrictlyIncreasing}
use Rattle.rb_step.specs.LightClient.{Update}
use Rattle.rb_core_model.specs.Standing.{with_height}
use Rattle.rb_core_state.proofs.client.put_heights.Given as goal

abbrev pub invariant-loop-update : goal.invariant-loop-update
invariant-loop-update g l = record {
  items : l.heights.items ≡ fold (λ heights (u : Update). with_height u.height heights) l.fn.heights.items (take l.update-index l.updates);
  rising : IsStrictlyIncreasing l.heights.items;
  room : vec_len l.heights + length l.updates ≤ vec_capacity l.heights + l.update-index;
}
