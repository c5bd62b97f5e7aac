use Rattle.std.proofs.Common.{◌≡◌}
use Rattle.rb_wire.specs.Lane.{taken_on, SameRx}
use Rattle.test_base.proofs.wire.take_some.Given as goal

abbrev pub invariant-loop : goal.invariant-loop
invariant-loop l = SameRx l.fn.rx l.rx × (l.taken.items ≡ taken_on l.rx)
