-- Packets (ICS 4, `Packet`), and what chains store of them (ICS 4; ibc-go, `CommitPacket` and `CommitAcknowledgement`).
use Rattle.std.specs.Prelude.{ℕ, ◌++◌, ◌==◌, if◌then◌else◌, List, length, Option, Some, None}
use Rattle.std.specs.Int.{w64, from_be_bytes, to_be_bytes}
use Rattle.sha2.specs.Sha256.{sha256}
use Rattle.rb_packets.specs.declared.packet.ChannelPacket.{ChannelPacket as CodeChannelPacket}
use Rattle.rb_import_answers.specs.declared.packets.RevisionHeight.{RevisionHeight}

pub record ChannelPacket : Type 0 where
  pub sequence : ℕ
  pub source_port : List ℕ
  pub source_channel : List ℕ
  pub dest_port : List ℕ
  pub dest_channel : List ℕ
  pub «data» : List ℕ
  pub timeout_height : RevisionHeight
  pub timeout_time : ℕ

abbrev pub packet_view : CodeChannelPacket → ChannelPacket
packet_view p = record {
  sequence = p.sequence;
  source_port = p.source_port.now;
  source_channel = p.source_channel.now;
  dest_port = p.dest_port.now;
  dest_channel = p.dest_channel.now;
  «data» = p.«data».now;
  timeout_height = p.timeout_height;
  timeout_time = p.timeout_time;
}

-- a number in 8 bytes, the highest first
unfoldable pub eight_bytes : ℕ → List ℕ
eight_bytes n = to_be_bytes w64 n

abbrev pub height_bytes : RevisionHeight → List ℕ
height_bytes h = eight_bytes h.revision ++ eight_bytes h.height

abbrev pub timeout_bytes : ChannelPacket → List ℕ
timeout_bytes p = eight_bytes p.timeout_time ++ height_bytes p.timeout_height

-- the timeouts and the hash of the data, hashed
abbrev pub packet_commitment : ChannelPacket → List ℕ
packet_commitment p = sha256 (timeout_bytes p ++ sha256 p.«data»)

abbrev pub acknowledgement_commitment : List ℕ → List ℕ
acknowledgement_commitment bytes = sha256 bytes

-- the sequence that is received next on an ORDERED channel, by the 8 bytes that are stored
abbrev pub next_sequence_in : List ℕ → Option ℕ
next_sequence_in value = if length value == 8 then Some (from_be_bytes w64 value) else None
