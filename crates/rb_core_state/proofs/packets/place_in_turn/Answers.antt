use Rattle.std.proofs.Common.{Some, ◌∙◌, sym}
use Rattle.rb_scan.specs.Packet.{Packet}
use Rattle.rb_core_state.proofs.Found.{looked_up}
use Rattle.rb_core_state.proofs.Places.{known_here}
use Rattle.rb_core_state.proofs.packets.place_in_turn.Goals as goal

pub returns-then-get-sequence : goal.returns-then-get-sequence
returns-then-get-sequence c =
    known_here (λ (p : Packet). p.sequence) c.args.sequence c.args.packets.now c.in_ok-place.place c.in_ok-get.field-0.now c.requires
    (looked_up c.args.packets.now c.in_ok-place.place (Some c.in_ok-get.field-0) c.in_ok-get.ensures.lookup)
    (sym c.sequence-2.ensures ∙ sym c.get-2.ensures.value ∙ c.if-get-sequence.true)
