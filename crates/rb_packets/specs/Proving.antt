-- Which answers prove what a packet message claims (ICS 4; ibc-go, `RecvPacket`, `AcknowledgePacket`, `TimeoutPacket`): by the app hash of the
-- consensus state at the proof height, with values that are computed from the packet.
use Rattle.std.specs.Prelude.{ℕ, List, codes, nat_le, Bool, false, ◌&&◌, Option, Some, None}
use Rattle.rb_ics23.specs.Shown.{shows_absent, shows_member}
use Rattle.rb_packets.specs.Answers.{StoreAnswer}
use Rattle.rb_packets.specs.Packets.{ChannelPacket, acknowledgement_commitment, next_sequence_in, packet_commitment}
use Rattle.rb_packets.specs.Claims.{Claim, acknowledged, awaited, key_of, sent, unreceived}

-- the name of the store (ICS 24; ibc-go)
abbrev pub store : List ℕ
store = codes "ibc"

abbrev pub is_at_most : ℕ → Option ℕ → Bool
is_at_most n None = false
is_at_most n (Some next) = nat_le next n

-- whether the sequence that is received next, by the value that is stored, is this one or one before it
abbrev pub is_awaited : ℕ → List ℕ → Bool
is_awaited sequence value = is_at_most sequence (next_sequence_in value)

unfoldable pub proves : List ℕ → ChannelPacket → Claim → StoreAnswer → Bool
proves app_hash p sent a = shows_member app_hash store (key_of p sent) (packet_commitment p) a.proof a.store
proves app_hash p (acknowledged bytes) a = shows_member app_hash store (key_of p (acknowledged bytes)) (acknowledgement_commitment bytes) a.proof a.store
proves app_hash p unreceived a = shows_absent app_hash store (key_of p unreceived) a.proof a.store
proves app_hash p awaited a = is_awaited p.sequence a.value && shows_member app_hash store (key_of p awaited) a.value a.proof a.store
