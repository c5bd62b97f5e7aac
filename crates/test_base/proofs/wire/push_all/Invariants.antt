use Rattle.std.proofs.Common.{◌≡◌, take}
use Rattle.rb_wire.specs.Lane.{sent_on, SameTx}
use Rattle.test_base.proofs.wire.push_all.Given as goal

abbrev pub invariant-loop-item : goal.invariant-loop-item
invariant-loop-item g l = SameTx l.fn.tx l.tx × (sent_on l.tx ≡ take l.item-index l.items)
