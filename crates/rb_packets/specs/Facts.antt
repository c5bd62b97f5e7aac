-- What transactions tell of a packet (ICS 4; CometBFT, `/tx_search`): of several the first that tells it.
use Rattle.std.specs.Prelude.{◌≡◌, ℕ, Bool, true, false, ◌&&◌, ◌==◌, List, [], ◌∷◌, find, map, string_bytes, Option, Some, None, Result, Ok, Err}
use Rattle.std.specs.Str.{bytes_eq}
use Rattle.serde_json.specs.Data.{Data}
use Rattle.rb_import_answers.specs.Answers.{Told, told, transactions as searched}
use Rattle.rb_import_answers.specs.Packets.{Packet, packet_view}
use Rattle.rb_import_answers.specs.declared.packets.PacketEvent.{PacketEvent}
use Rattle.rb_import_answers.specs.declared.packets.PacketKind.{PacketKind}
use Rattle.rb_import_answers.specs.declared.packets.PacketKind.TheVariants as kinds
use Rattle.rb_packets.specs.declared.event.PacketBytes.TheVariants as asked
use Rattle.rb_packets.specs.Events.{Way}
use Rattle.rb_packets.specs.Json.{json}
use Rattle.rb_packets.specs.Steps.{◌>>=◌, first_of}
use Rattle.rb_import_json.specs.declared.error.FieldError.{FieldError}
use Rattle.rb_packets.specs.Transactions.{bytes_in, transactions_view}
use Rattle.rb_import_answers.specs.declared.packets.RevisionHeight.{RevisionHeight}
use Rattle.rb_scan.specs.declared.message.Kind.{Kind}
use Rattle.rb_scan.specs.declared.message.Kind.TheVariants.{Receive, Acknowledge, Timeout}
use Rattle.rb_script_types.specs.Channels.{end_text}
use Rattle.rb_packets.specs.declared.ends.Ends.{Ends}
use Rattle.rb_packets.specs.declared.facts.PacketFacts.{PacketFacts}
use Rattle.rb_packets.specs.declared.facts.PathAnswer.{PathAnswer}
use Rattle.rb_packets.specs.declared.facts.SentPacket.{SentPacket}

-- an answer: the events of packets, and its JSON
pub record Answer : Type 0 where
  pub events : List PacketEvent
  pub transactions : Data

abbrev pub answer_view : PathAnswer → Answer
answer_view a = record { events = a.events.items; transactions = transactions_view a.transactions }

-- the packets that an answer tells of, if it is one to `/tx_search`
abbrev pub packets_in : Result Told FieldError → Option (List Packet)
packets_in (Ok (searched s)) = Some s.packets
packets_in (Ok _) = None
packets_in (Err _) = None

-- what the bytes of an answer tell, as `import` reads them
pub record IsAnswerOf (bytes : List ℕ) (a : PathAnswer) : Type 0 where
  pub events : packets_in (told 0 bytes) ≡ Some (map packet_view a.events.items)
  pub transactions : json bytes ≡ Some (transactions_view a.transactions)

-- which packet it is
abbrev pub way_of : Ends → ℕ → Way
way_of ends sequence = record {
  sequence = sequence;
  source_port = ends.source.port;
  source_channel = ends.source.channel;
  dest_port = ends.dest.port;
  dest_channel = ends.dest.channel;
}

-- ---- a packet that was sent

pub record Sent : Type 0 where
  pub «data» : List ℕ
  pub timeout_height : RevisionHeight
  pub timeout_time : ℕ

abbrev pub sent_view : SentPacket → Sent
sent_view s = record { «data» = s.«data».items; timeout_height = s.timeout_height; timeout_time = s.timeout_time }

abbrev pub is_sending : PacketKind → Bool
is_sending kinds.Sent = true
is_sending kinds.Received = false
is_sending kinds.AckWritten = false
is_sending kinds.Cleared = false
is_sending kinds.TimedOut = false

-- whether an event tells of the sending of a packet
abbrev pub is_sent : List ℕ → List ℕ → ℕ → PacketEvent → Bool
is_sent source dest sequence e =
    is_sending e.kind && (e.sequence == sequence) && bytes_eq (string_bytes e.source) source && bytes_eq (string_bytes e.dest) dest

abbrev pub sent_event : List ℕ → List ℕ → ℕ → List PacketEvent → Option PacketEvent
sent_event source dest sequence events = find (is_sent source dest sequence) events

abbrev pub sent_with : PacketEvent → List ℕ → Sent
sent_with e bytes = record {
  «data» = bytes;
  timeout_height = record { revision = e.timeout_height.revision; height = e.timeout_height.height };
  timeout_time = e.timeout_time;
}

-- the timeouts from the event of its sending, the data from the transaction
unfoldable pub sent_of : Ends → ℕ → Answer → Option Sent
sent_of ends sequence a =
    sent_event (end_text ends.source) (end_text ends.dest) sequence a.events
    >>= λ e. bytes_in asked.Data (way_of ends sequence) a.transactions >>= λ bytes. Some (sent_with e bytes)

abbrev pub sent_in : Ends → ℕ → List Answer → Option Sent
sent_in ends sequence [] = None
sent_in ends sequence (a ∷ rest) = first_of (sent_of ends sequence a) (sent_in ends sequence rest)

-- ---- its acknowledgement

abbrev pub acknowledgement_in : Ends → ℕ → List Answer → Option (List ℕ)
acknowledgement_in ends sequence [] = None
acknowledgement_in ends sequence (a ∷ rest) = first_of (bytes_in asked.Acknowledgement (way_of ends sequence) a.transactions) (acknowledgement_in ends sequence rest)

-- that which a message of a kind needs: none but an acknowledgement message needs one
abbrev pub needed_acknowledgement : Kind → Ends → ℕ → List Answer → Option (List ℕ)
needed_acknowledgement Receive ends sequence answers = Some []
needed_acknowledgement Acknowledge ends sequence answers = acknowledgement_in ends sequence answers
needed_acknowledgement Timeout ends sequence answers = Some []

-- ---- both

pub record Facts : Type 0 where
  pub sent : Sent
  pub acknowledgement : List ℕ

abbrev pub facts_view : PacketFacts → Facts
facts_view f = record {
  sent = record { «data» = f.«data».items; timeout_height = f.timeout_height; timeout_time = f.timeout_time };
  acknowledgement = f.acknowledgement.items;
}

-- what the answers tell of a packet, as far as a message of a kind needs it
pub record AreFactsIn (kind : Kind) (ends : Ends) (sequence : ℕ) (answers : List Answer) (f : Facts) : Type 0 where
  pub sent : sent_in ends sequence answers ≡ Some f.sent
  pub acknowledgement : needed_acknowledgement kind ends sequence answers ≡ Some f.acknowledgement
