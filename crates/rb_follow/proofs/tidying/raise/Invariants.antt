use Rattle.std.proofs.Common.{◌≡◌}
use Rattle.std.specs.Prelude.{max, slice_index_or}
use Rattle.rb_core_state.proofs.Forgotten.{upto}
use Rattle.rb_follow.proofs.tidying.raise.Given as goal

abbrev pub invariant-loop-chain : goal.invariant-loop-chain
invariant-loop-chain l = l.floors.items ≡ upto (λ chain floor. max floor (slice_index_or l.before chain 0)) 0 l.chain l.initial.floors.items
