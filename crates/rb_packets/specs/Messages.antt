-- Packet messages that are due (ICS 4), what a node is asked for each, and its text by an answer that proves it (ICS 23).
use Rattle.std.specs.Prelude.{◌≡◌, ℕ, true, List, Some, Result, Ok, Err}
use Rattle.rb_packets.specs.Answers.{StoreAnswer, store_answer}
use Rattle.rb_packets.specs.Packets.{ChannelPacket}
use Rattle.rb_import_answers.specs.declared.packets.RevisionHeight.{RevisionHeight}
use Rattle.rb_packets.specs.Asking.{file_name, query_of}
use Rattle.rb_packets.specs.Claims.{Claim, acknowledged, awaited, sent, unreceived}
use Rattle.rb_packets.specs.Judging.{Proven, judged, proven_by}
use Rattle.rb_packets.specs.Proving.{proves}
use Rattle.rb_packets.specs.declared.judging.ProofError.{ProofError}
use Rattle.rb_packets.specs.declared.judging.ProofError.TheVariants as proofs
use Rattle.rb_packets.specs.MessageTexts.{Action, Message, acknowledge, packet_message_text, receive, time_out}
use Rattle.rb_scan.specs.declared.message.Kind.{Kind}
use Rattle.rb_scan.specs.declared.message.Kind.TheVariants.{Receive, Acknowledge, Timeout}
use Rattle.rb_scan.specs.declared.path.Order.{Order}
use Rattle.rb_scan.specs.declared.path.Order.TheVariants.{Ordered, Unordered}
use Rattle.rb_packets.specs.declared.due.DueMessage.{DueMessage}
use Rattle.rb_packets.specs.declared.ends.Ends.{Ends}
use Rattle.rb_packets.specs.declared.error.PacketError.{PacketError}
use Rattle.rb_packets.specs.declared.error.PacketError.TheVariants.{NoMemory, NoProof, NotProven}
use Rattle.rb_packets.specs.Facts.{Facts, facts_view}

pub record Due : Type 0 where
  pub kind : Kind
  pub order : Order
  pub ends : Ends
  pub sequence : ℕ
  pub facts : Facts
  pub app_hash : List ℕ
  pub proof_height : RevisionHeight

abbrev pub due_view : DueMessage → Due
due_view d = record {
  kind = d.kind;
  order = d.order;
  ends = d.ends;
  sequence = d.sequence;
  facts = facts_view d.facts.now;
  app_hash = d.app_hash;
  proof_height = d.proof_height;
}

abbrev pub packet_of : Due → ChannelPacket
packet_of d = record {
  sequence = d.sequence;
  source_port = d.ends.source.port;
  source_channel = d.ends.source.channel;
  dest_port = d.ends.dest.port;
  dest_channel = d.ends.dest.channel;
  «data» = d.facts.sent.«data»;
  timeout_height = d.facts.sent.timeout_height;
  timeout_time = d.facts.sent.timeout_time;
}

-- a timeout on an ORDERED channel shows that the packet is awaited, on an UNORDERED one that it has no receipt
abbrev pub claimed : Kind → Order → List ℕ → Claim
claimed Receive order acknowledgement = sent
claimed Acknowledge order acknowledgement = acknowledged acknowledgement
claimed Timeout Ordered acknowledgement = awaited
claimed Timeout Unordered acknowledgement = unreceived

abbrev pub claim_of : Due → Claim
claim_of d = claimed d.kind d.order d.facts.acknowledgement

-- ---- what a node is asked, and the file of its answer

abbrev pub file_of : Due → List ℕ
file_of d = file_name (packet_of d) (claim_of d) d.proof_height.height

abbrev pub asked_of : Due → List ℕ
asked_of d = query_of (packet_of d) (claim_of d) d.proof_height.height

-- ---- the message

abbrev pub action_of : Claim → ℕ → Action
action_of sent next = receive
action_of (acknowledged bytes) next = acknowledge bytes
action_of unreceived next = time_out next
action_of awaited next = time_out next

abbrev pub error_of : ProofError → PacketError
error_of proofs.NoProof = NoProof
error_of proofs.NotProven = NotProven
error_of proofs.NoMemory = NoMemory

-- what a message says that has this proof
abbrev pub message_with : Due → List ℕ → Proven → Message
message_with d signer p = record {
  action = action_of (claim_of d) p.next;
  packet = packet_of d;
  proof = p.proof;
  proof_height = d.proof_height;
  signer = signer;
}

abbrev pub text_by : Due → List ℕ → Result Proven ProofError → Result (List ℕ) PacketError
text_by d signer (Ok p) = Ok (packet_message_text (message_with d signer p))
text_by d signer (Err e) = Err (error_of e)

-- the text of a message whose proof the answer has, judged by the app hash
abbrev pub message_of : Due → List ℕ → List ℕ → Result (List ℕ) PacketError
message_of d signer answer = text_by d signer (judged d.app_hash (packet_of d) (claim_of d) answer)

-- a message that is made: the proofs that the node answered show its claim under the app hash (ICS 23), and it has these proofs
pub record IsProven (d : Due) (signer answer text : List ℕ) : Type 0 where
  pub stored : StoreAnswer
  pub answered : store_answer answer ≡ Some stored
  pub shown : proves d.app_hash (packet_of d) (claim_of d) stored ≡ true
  pub told : text ≡ packet_message_text (message_with d signer (proven_by (packet_of d) (claim_of d) stored))
