-- What packet messages claim (ICS 4, `recvPacket`, `acknowledgePacket`, `timeoutPacket`), and of which key (ICS 24).
use Rattle.std.specs.Prelude.{ℕ, List}
use Rattle.rb_ics23.specs.Paths.{acknowledgement_path, commitment_path, next_sequence_path, receipt_path}
use Rattle.rb_packets.specs.Packets.{ChannelPacket}
use Rattle.rb_packets.specs.declared.claim.Claim.{Claim as CodeClaim}
use Rattle.rb_packets.specs.declared.claim.Claim.TheVariants as claims

pub data Claim : Type 0 where
  sent : Claim
  acknowledged : List ℕ → Claim
  unreceived : Claim
  awaited : Claim

abbrev pub claim_view : CodeClaim → Claim
claim_view claims.Sent = sent
claim_view (claims.Acknowledged bytes) = acknowledged bytes.now
claim_view claims.Unreceived = unreceived
claim_view claims.Awaited = awaited

abbrev pub key_of : ChannelPacket → Claim → List ℕ
key_of p sent = commitment_path p.source_port p.source_channel p.sequence
key_of p (acknowledged bytes) = acknowledgement_path p.dest_port p.dest_channel p.sequence
key_of p unreceived = receipt_path p.dest_port p.dest_channel p.sequence
key_of p awaited = next_sequence_path p.dest_port p.dest_channel
