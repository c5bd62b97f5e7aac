use Rattle.std.proofs.Common.{ap, ◌∙◌}
use Rattle.std.specs.List.{flat_map}
use Rattle.std.proofs.lemmas.List.{take_all}
use Rattle.rb_core_model.specs.Forgetting.{needs_here}
use Rattle.rb_core_state.specs.Floors.{lowered}
use Rattle.rb_core_state.proofs.Lowest.{lowered-next}
use Rattle.rb_core_state.proofs.floors.lower_by_sent.Goals as goal

pub loop-packet-preserved : goal.loop-packet-preserved
loop-packet-preserved c =
    lowered-next (needs_here c.args.order) c.args.packets.now c.loop-packet.packet-index c.packet-item.result c.args.lowest _ _
    c.loop-packet-test.true c.packet-item.is c.loop-packet.invariant c.lower_here-least.ensures

pub returns : goal.returns
returns c =
    c.loop-packet.invariant
    ∙ ap (λ qs. lowered c.args.lowest (flat_map (needs_here c.args.order) qs)) (take_all c.loop-packet.packet-index c.args.packets.now c.loop-packet-test.false)
