use Rattle.std.proofs.Common.{◌≡◌, ◌*◌, ◌≤◌, take, sum_by}
use Rattle.rb_batch.specs.declared.transaction.Transaction.{Transaction}
use Rattle.rb_core_state.proofs.settling.carried.Given as goal

abbrev pub invariant-loop-transaction : goal.invariant-loop-transaction
invariant-loop-transaction l =
    (l.count ≡ sum_by (λ (t : Transaction). t.count) (take l.transaction-index l.transaction-items)) × (l.count ≤ 18446744073709551615 * l.transaction-index)
