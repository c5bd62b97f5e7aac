-- What becomes known of a packet.
use Rattle.std.specs.Prelude.{true, Some}
use Rattle.rb_scan.specs.Packet.{Packet}
use Rattle.rb_core_model.specs.Standing.{mark_of}
use Rattle.rb_core_state.specs.declared.mark.Mark.{Mark}
use Rattle.rb_core_state.specs.declared.mark.Mark.TheVariants.{Received, Written, Cleared, Settled}

abbrev pub mark_by : Mark → Packet → Packet
mark_by (Received block) q = record q { received = Some block }
mark_by (Written block) q = record q { written = Some block.height; written_time = block.time }
mark_by Cleared q = record q { cleared = true }
mark_by (Settled kind) q = mark_of kind q
