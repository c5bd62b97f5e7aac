use Rattle.std.proofs.Common.{append_assoc, refl}
use Rattle.std.proofs.lemmas.Result.{on_ok_weaker}
use Rattle.rb_packets.specs.PacketTexts.{source_members}
use Rattle.rb_packets.proofs.packet_text.push_source.Goals as goal

pub returns : goal.returns
unfolding source_members
returns c = on_ok_weaker c.push_dest.result (λ last. rw last (rw c.in_ok-push_text-2.ensures (rw c.in_ok-push_text.ensures (simp append_assoc refl)))) c.push_dest.ensures
