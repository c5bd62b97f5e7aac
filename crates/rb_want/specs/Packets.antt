-- What the folder of a path tells of its pending packets (ICS 4: packet commitments, receipts and acknowledgements).
use Rattle.std.specs.Prelude.{ℕ, ◌≡◌, ◌==◌, ◌&&◌, ◌+◌, ◌/◌, nat_lt, Bool, true, false, not, List, [], Option, Some, None, find, length, string_bytes}
use Rattle.std.specs.List.{flat_map, list_any}
use Rattle.std.specs.List.Sorted.{IsNonDecreasing}
use Rattle.std.specs.Option.{option_and_then, option_map}
use Rattle.std.specs.Str.{bytes_eq}
use Rattle.rb_import_answers.specs.declared.packets.PacketEvent.{PacketEvent}
use Rattle.rb_import_answers.specs.declared.packets.PacketKind.{PacketKind}
use Rattle.rb_import_answers.specs.declared.packets.PacketKind.TheVariants as did
use Rattle.rb_want_requests.specs.Answered.{next_part}
use Rattle.rb_want_requests.specs.PacketPaths.{pending_in}
use Rattle.rb_want_requests.specs.Requests.{is_named}
use Rattle.rb_want_requests.specs.declared.answered.PartKind.TheVariants as kinds
use Rattle.rb_want_requests.specs.declared.content.Content.{Content}
use Rattle.rb_want_requests.specs.declared.content.Content.TheVariants as contents
use Rattle.rb_want_requests.specs.declared.content.Folder.{Folder}
use Rattle.rb_want_requests.specs.declared.request.Query.TheVariants as queries

-- the packets that an answer tells weren't received
abbrev pub unreceived_of : Content → List ℕ
unreceived_of (contents.Unreceived number sequences) = sequences.items
unreceived_of _ = []

-- the packets of which an answer tells that the acknowledgement was written
abbrev pub acknowledged_of : Content → List ℕ
acknowledged_of (contents.Acknowledgements number sequences) = sequences.items
acknowledged_of _ = []

-- whether a sequence is among these
abbrev pub has : ℕ → List ℕ → Bool
has n sequences = list_any (λ m. m == n) sequences

-- the same sequences, rising
abbrev pub AreOf : List ℕ → List ℕ → Type 0
AreOf told sorted = IsNonDecreasing sorted × ((n : ℕ) → has n sorted ≡ has n told)

-- how many parts of 100 these packets make
abbrev pub parts_of : List ℕ → ℕ
parts_of sequences = (length sequences + 99) / 100

abbrev pub parts_in : List Content → ℕ
parts_in there = parts_of (pending_in there)

-- both answers on each of so many parts are there
abbrev pub have_parts : ℕ → List Content → Bool
have_parts parts there = nat_lt parts (next_part kinds.Unreceived there) && nat_lt parts (next_part kinds.Acknowledgements there)

-- both answers on each part of the pending packets are there
abbrev pub are_complete : List Content → Bool
are_complete there = have_parts (parts_in there) there

-- a pending packet was received: the answers on all parts are there, and none tells that it wasn't
abbrev pub is_received : List Content → ℕ → Bool
is_received there n = are_complete there && not (has n (flat_map unreceived_of there))

-- the acknowledgement of a pending packet was written: the answers on all parts are there, and one tells so
abbrev pub is_acknowledged : List Content → ℕ → Bool
is_acknowledged there n = are_complete there && has n (flat_map acknowledged_of there)

abbrev pub is_writing : PacketKind → Bool
is_writing did.AckWritten = true
is_writing _ = false

-- a transaction wrote the acknowledgement of the packet with this sequence, of the source `port/channel`
abbrev pub is_ack_written : List ℕ → ℕ → PacketEvent → Bool
is_ack_written source n event = is_writing event.kind && (event.sequence == n) && bytes_eq (string_bytes event.source) source

-- an answer has such a transaction
abbrev pub tells_ack_written : List ℕ → ℕ → Content → Bool
tells_ack_written source n (contents.Search page) = list_any (is_ack_written source n) page.events.items
tells_ack_written source n _ = false

-- the acknowledgement was written, but no answer tells in which block: the search for the packet's receiving was answered, and has no such transaction
abbrev pub lacks_ack : Folder → List ℕ → ℕ → Bool
lacks_ack folder source n =
    is_acknowledged folder.contents.items n && is_named folder.searched.items (queries.Received n)
    && not (list_any (tells_ack_written source n) folder.contents.items)

-- ---- blocks

abbrev pub is_sending : PacketKind → Bool
is_sending did.Sent = true
is_sending _ = false

-- the packet has no timeout height: the times of blocks to come are not known, so a packet with one waits for no other
abbrev pub may_wait : PacketEvent → Bool
may_wait event = (event.timeout_height.revision == 0) && (event.timeout_height.height == 0)

-- a transaction sent the packet with this sequence, of the source `port/channel`, and its receive may wait
abbrev pub is_sent_to_wait : List ℕ → ℕ → PacketEvent → Bool
is_sent_to_wait source n event = is_sending event.kind && (event.sequence == n) && bytes_eq (string_bytes event.source) source && may_wait event

-- an answer has such a transaction
abbrev pub tells_sent_to_wait : List ℕ → ℕ → Content → Bool
tells_sent_to_wait source n (contents.Search page) = list_any (is_sent_to_wait source n) page.events.items
tells_sent_to_wait source n _ = false

-- the block of the first such transaction
abbrev pub sent_in : List ℕ → ℕ → Content → Option ℕ
sent_in source n (contents.Search page) = option_map (λ (e : PacketEvent). e.block) (find (is_sent_to_wait source n) page.events.items)
sent_in source n _ = None

-- in which block a packet was sent whose receive may wait, as the first answer has it that tells it
abbrev pub sent_block : List ℕ → ℕ → List Content → Option ℕ
sent_block source n there = option_and_then (sent_in source n) (find (tells_sent_to_wait source n) there)

-- in which block its acknowledgement was written
abbrev pub written_in : List ℕ → ℕ → Content → Option ℕ
written_in source n (contents.Search page) = option_map (λ (e : PacketEvent). e.block) (find (is_ack_written source n) page.events.items)
written_in source n _ = None

abbrev pub written_block : List ℕ → ℕ → List Content → Option ℕ
written_block source n there = option_and_then (written_in source n) (find (tells_ack_written source n) there)
