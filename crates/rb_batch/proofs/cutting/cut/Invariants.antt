use Rattle.std.proofs.Common.{ℕ, ◌<◌, slice_index}
use Rattle.rb_batch.specs.Limits.{IsLimits, IsTooBig}
use Rattle.rb_batch.proofs.UnderWay.{IsUnderWay}
use Rattle.rb_batch.proofs.cutting.cut.Given as goal

abbrev pub invariant-loop-index : goal.invariant-loop-index
invariant-loop-index g l = record {
  limits : IsLimits l.limits;
  cut : IsUnderWay l.limits l.messages l.transactions.items l.last l.index;
  none_too_big : (k : ℕ) → k < l.index → IsTooBig l.limits (slice_index l.messages k) → ⊥;
}
