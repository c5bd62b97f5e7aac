-- The text of packet messages (ICS 4; ibc-go, `MsgRecvPacket`, `MsgAcknowledgement` and `MsgTimeout`; their JSON by protojson).
use Rattle.std.specs.Prelude.{ℕ, List, [], ◌∷◌, codes}
use Rattle.rb_script_text.specs.Json.{Json, json_text, object, string, ◌is◌}
use Rattle.rb_packets.specs.Packets.{ChannelPacket, packet_view}
use Rattle.rb_import_answers.specs.declared.packets.RevisionHeight.{RevisionHeight}
use Rattle.rb_packets.specs.PacketTexts.{packet_json}
use Rattle.rb_packets.specs.Values.{bytes_json, height_json, number_json}
use Rattle.rb_packets.specs.declared.message.Action.{Action as CodeAction}
use Rattle.rb_packets.specs.declared.message.Action.TheVariants as actions
use Rattle.rb_packets.specs.declared.message.PacketMessage.{PacketMessage}

-- what a message does: an acknowledgement has its bytes, a timeout the sequence that is received next
pub data Action : Type 0 where
  receive : Action
  acknowledge : List ℕ → Action
  time_out : ℕ → Action

abbrev pub action_view : CodeAction → Action
action_view actions.Receive = receive
action_view (actions.Acknowledge bytes) = acknowledge bytes.now
action_view (actions.Timeout next) = time_out next

pub record Message : Type 0 where
  pub action : Action
  pub packet : ChannelPacket
  pub proof : List ℕ
  pub proof_height : RevisionHeight
  pub signer : List ℕ

abbrev pub message_view : PacketMessage → Message
message_view m = record {
  action = action_view m.action;
  packet = packet_view m.packet;
  proof = m.proof.now;
  proof_height = m.proof_height;
  signer = m.signer.now;
}

abbrev pub type_of : Action → List ℕ
type_of receive = codes "/ibc.core.channel.v1.MsgRecvPacket"
type_of (acknowledge bytes) = codes "/ibc.core.channel.v1.MsgAcknowledgement"
type_of (time_out next) = codes "/ibc.core.channel.v1.MsgTimeout"

-- the proof under its name, its height, and the account that signs
unfoldable pub proof_members : List ℕ → Message → List (List ℕ × Json)
proof_members name m = (name is bytes_json m.proof) ∷ (codes "proof_height" is height_json m.proof_height) ∷ (codes "signer" is string m.signer) ∷ []

-- what stands behind the packet: what messages of a kind alone have, and the proof
abbrev pub of_action : Action → Message → List (List ℕ × Json)
of_action receive m = proof_members (codes "proof_commitment") m
of_action (acknowledge bytes) m = (codes "acknowledgement" is bytes_json bytes) ∷ proof_members (codes "proof_acked") m
of_action (time_out next) m = (codes "next_sequence_recv" is number_json next) ∷ proof_members (codes "proof_unreceived") m

unfoldable pub action_members : Message → List (List ℕ × Json)
action_members m = of_action m.action m

unfoldable pub message_json : Message → Json
message_json m = object ((codes "@type" is string (type_of m.action)) ∷ (codes "packet" is packet_json m.packet) ∷ action_members m)

abbrev pub packet_message_text : Message → List ℕ
packet_message_text m = json_text (message_json m)
