use Rattle.std.proofs.Common.{◌≡◌, ◌+◌, drop}
use Rattle.rb_core_model.specs.Over.{over_from}
use Rattle.rb_core_state.proofs.over.over_from.Given as goal

abbrev pub invariant-loop-index : goal.invariant-loop-index
invariant-loop-index l = l.index + over_from l.order l.next (drop l.index l.packets) ≡ over_from l.order l.initial.next l.packets
