use Rattle.std.proofs.Common.{◌≡◌, take}
use Rattle.std.specs.List.{flat_map}
use Rattle.rb_core_model.specs.Forgetting.{needs_here}
use Rattle.rb_core_state.specs.Floors.{lowered}
use Rattle.rb_core_state.proofs.floors.lower_by_sent.Given as goal

abbrev pub invariant-loop-packet : goal.invariant-loop-packet
invariant-loop-packet l = l.least ≡ lowered l.fn.lowest (flat_map (needs_here l.order) (take l.packet-index l.packets))
