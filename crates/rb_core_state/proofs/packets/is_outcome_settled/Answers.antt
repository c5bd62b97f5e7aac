use Rattle.std.proofs.Common.{ap, ◌∙◌}
use Rattle.rb_scan.specs.Same.{same_packet}
use Rattle.rb_core_state.proofs.Told.{outcome_told}
use Rattle.rb_core_state.proofs.packets.is_outcome_settled.Goals as goal

pub returns : goal.returns
returns c = c.eq.ensures ∙ ap (same_packet c.args.packet.now) c.with_outcome_settled.ensures ∙ outcome_told c.args.packet.now
