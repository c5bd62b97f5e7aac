use Rattle.std.proofs.Common.{◌≡◌, take}
use Rattle.std.specs.List.{flat_map}
use Rattle.rb_core_model.specs.Forgetting.{needs_there}
use Rattle.rb_core_state.specs.Floors.{lowered}
use Rattle.rb_core_state.proofs.floors.lower_by_received.Given as goal

abbrev pub invariant-loop-packet : goal.invariant-loop-packet
invariant-loop-packet g l = l.least ≡ lowered l.fn.lowest (flat_map (needs_there l.book l.order) (take l.packet-index l.packets))
