use Rattle.std.proofs.Common.{◌≡◌}
use Rattle.rb_wire.specs.Lane.{sent_on, SameTx}
use Rattle.test_base.proofs.wire.push_waiting.Given as goal

abbrev pub invariant-loop : goal.invariant-loop
invariant-loop g l = SameTx l.initial.tx l.tx × (sent_on l.tx ≡ sent_on l.initial.tx) × (l.item ≡ l.fn.item)
