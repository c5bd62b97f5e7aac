-- What was seen of a path's packets (ICS 4).
use Rattle.std.specs.Prelude.{◌≡◌, ℕ, ◌+◌, ◌-◌, ◌^◌, ◌≤◌, ◌==◌, nat_le, nat_lt, Bool, true, false, not, ◌&&◌, ◌||◌, if◌then◌else◌, List, [], ◌∷◌, Option, Some, None, IfSome, option_map, String, All, Any, Contains, length, map, filter, string_bytes}
use Rattle.std.specs.Global.{Global}
use Rattle.std.specs.List.{flat_map, list_any, IsDistinct}
use Rattle.std.specs.Option.{option_or}
use Rattle.std.specs.Str.{bytes_eq}
use Rattle.rb_import_answers.specs.declared.answer.NodeAnswer.{NodeAnswer}
use Rattle.rb_import_answers.specs.declared.answer.NodeAnswer.TheVariants as answers
use Rattle.rb_import_answers.specs.declared.packets.PacketEvent.{PacketEvent}
use Rattle.rb_import_answers.specs.declared.packets.PacketKind.{PacketKind}
use Rattle.rb_import_answers.specs.declared.packets.RevisionHeight.{RevisionHeight}
use Rattle.rb_import_answers.specs.Revisions.{IsRevision}
use Rattle.rb_import_setup.specs.declared.setup.PathSetup.{PathSetup}
use Rattle.rb_import_check.specs.declared.error.CheckErrorName.{CheckErrorName}
use Rattle.rb_import_check.specs.declared.error.ImportError.{ImportError}
use Rattle.rb_import_check.specs.declared.error.ImportError.TheVariants as errors
use Rattle.rb_import_check.specs.declared.saved.Saved.{Saved}
use Rattle.rb_import_check.specs.Errors.{IsIn, IsOfNoHeight}
use Rattle.rb_import_check.specs.Named.{with_files}
use Rattle.rb_import_merge.specs.Pending.{is_pending, tells_done}
use Rattle.rb_import_merge.specs.declared.packets.Searches.{Searches}
use Rattle.rb_import_merge.specs.declared.packets.SeenPacket.{SeenPacket}

abbrev pub is_source : Option (String Global) → List ℕ → Bool
is_source (Some wanted) source = bytes_eq (string_bytes wanted) source
is_source None source = true

abbrev pub is_dest : Option (List ℕ) → List ℕ → Bool
is_dest (Some wanted) dest = bytes_eq wanted dest
is_dest None dest = true

-- whether an event of the first kind counts as one of the second: a packet that timed out is cleared
abbrev pub counts_as : PacketKind → PacketKind → Bool
counts_as PacketKind.Sent PacketKind.Sent = true
counts_as PacketKind.Received PacketKind.Received = true
counts_as PacketKind.AckWritten PacketKind.AckWritten = true
counts_as PacketKind.Cleared PacketKind.Cleared = true
counts_as PacketKind.TimedOut PacketKind.Cleared = true
counts_as PacketKind.TimedOut PacketKind.TimedOut = true
counts_as other another = false

-- whether an event tells that a packet of the path's source was sent
abbrev pub is_sending : PathSetup → PacketEvent → Bool
is_sending setup e = counts_as e.kind PacketKind.Sent && is_source setup.source_channel (string_bytes e.source)

-- whether a destination is another than this one, if there is this one
abbrev pub is_other : Option (List ℕ) → List ℕ → Bool
is_other (Some one) dest = not (bytes_eq one dest)
is_other None dest = true

-- the destination of the first packet that was sent from the path's source to another one than this; none where none was
abbrev pub first_dest : PathSetup → Option (List ℕ) → List PacketEvent → Option (List ℕ)
first_dest setup but [] = None
first_dest setup but (e ∷ es) = if is_other but (string_bytes e.dest) && is_sending setup e then Some (string_bytes e.dest) else first_dest setup but es

-- the path's destination: the counterparty that the setup names, or else the destination of the first of its packets that was sent
-- (ICS 4: a channel's end has one counterparty); none where none was
abbrev pub counterparty : PathSetup → List PacketEvent → Option (List ℕ)
counterparty setup events = option_or (option_map string_bytes setup.counterparty) (first_dest setup None events)

-- whether an event is of the path's packets, by this destination and these answers: of those that may be pending
abbrev pub is_wanted : PathSetup → Option (List ℕ) → List Saved → PacketEvent → Bool
is_wanted setup end saved e =
    is_source setup.source_channel (string_bytes e.source) && is_dest end (string_bytes e.dest) && nat_le setup.config.first e.sequence
    && is_pending saved e.sequence

abbrev pub events_in : NodeAnswer → List PacketEvent
events_in (answers.Commit header) = []
events_in (answers.Validators page) = []
events_in (answers.ClientState state) = []
events_in (answers.ConsensusStates page) = []
events_in (answers.Transactions page) = page.events.items
events_in (answers.Pending p) = []
events_in (answers.Verdicts v) = []
events_in (answers.Other query) = []

-- the events that a path's answers tell of, in their order
abbrev pub events_of : List Saved → List PacketEvent
events_of saved = flat_map (λ s. events_in s.answer) saved

-- an event, and the name of its file
abbrev pub FiledEvent : Type 0
FiledEvent = PacketEvent × List ℕ

-- the events that a path's answers tell of, each with its file
abbrev pub filed_events_of : List Saved → List FiledEvent
filed_events_of saved = with_files events_in saved

abbrev pub filed_event : SeenPacket → FiledEvent
filed_event p = (p.event.now, p.file.now)

-- the answer in the packet's file tells of its event
abbrev pub IsOfFile : List Saved → SeenPacket → Type 0
IsOfFile saved p = Contains (filed_events_of saved) (filed_event p)

-- the events of seen packets
abbrev pub seen_events : List SeenPacket → List PacketEvent
seen_events packets = map (λ (p : SeenPacket). p.event.now) packets

-- the packet is the path's: its sequence is the first one or later, its source is the one that the setup names, its destination the
-- path's, and it may be pending
abbrev pub IsOfPath : PathSetup → List Saved → SeenPacket → Type 0
IsOfPath setup saved p =
    (setup.config.first ≤ p.event.now.sequence)
    × IfSome setup.source_channel (λ source. string_bytes p.event.now.source ≡ string_bytes source)
    × IfSome (counterparty setup (events_of saved)) (λ dest. string_bytes p.event.now.dest ≡ dest)
    × (is_pending saved p.event.now.sequence ≡ true)

-- those of the events that a path's answers tell of that are wanted of it
abbrev pub wanted_of : PathSetup → List Saved → List PacketEvent
wanted_of setup saved = filter (is_wanted setup (counterparty setup (events_of saved)) saved) (events_of saved)

-- a sending's events are equal
abbrev pub IsSameSending : PacketEvent → PacketEvent → Type 0
IsSameSending e p =
    (p.block ≡ e.block)
    × (p.timeout_height.revision ≡ e.timeout_height.revision)
    × (p.timeout_height.height ≡ e.timeout_height.height)
    × (p.timeout_time ≡ e.timeout_time)

-- a seen event stands for another: it is of its kind and sequence, and of its block or a lower one; it is equal, where a packet was sent
abbrev pub StandsFor : PacketEvent → SeenPacket → Type 0
StandsFor e p =
    (p.event.now.kind ≡ e.kind) × (p.event.now.sequence ≡ e.sequence) × (p.event.now.block ≤ e.block)
    × (e.kind ≡ PacketKind.Sent → IsSameSending e p.event.now)

-- the kinds in the order of a packet's way
abbrev pub place_of : PacketKind → ℕ
place_of PacketKind.Sent = 0
place_of PacketKind.Received = 1
place_of PacketKind.AckWritten = 2
place_of PacketKind.Cleared = 3
place_of PacketKind.TimedOut = 4

-- whether two are of one kind and sequence
abbrev pub are_of_one : SeenPacket → SeenPacket → Bool
are_of_one p q = place_of p.event.now.kind == place_of q.event.now.kind && p.event.now.sequence == q.event.now.sequence

-- whether one of these packets timed out
abbrev pub some_timed_out : List SeenPacket → Bool
some_timed_out packets = list_any (λ (p : SeenPacket). counts_as p.event.now.kind PacketKind.TimedOut) packets

-- the packets are from one source
abbrev pub AreFromOne : List SeenPacket → Type 0
AreFromOne packets = (source : List ℕ) × All (λ (p : SeenPacket). string_bytes p.event.now.source ≡ source) packets

-- whether a path may have an answer: on its packets, or of a kind that isn't needed
abbrev pub is_on_packets : NodeAnswer → Bool
is_on_packets (answers.Commit header) = false
is_on_packets (answers.Validators page) = false
is_on_packets (answers.ClientState state) = false
is_on_packets (answers.ConsensusStates page) = false
is_on_packets (answers.Transactions page) = true
is_on_packets (answers.Pending p) = true
is_on_packets (answers.Verdicts v) = false
is_on_packets (answers.Other query) = true

-- the problem is that one of the answers belongs into another folder: its file, and no number
abbrev pub IsOfOtherFolder : List Saved → ImportError → Type 0
IsOfOtherFolder saved (errors.CheckError p) =
    (p.name ≡ CheckErrorName.WrongFolder)
    × Any (λ (s : Saved). (is_on_packets s.answer ≡ false) × IsIn (string_bytes s.file) (errors.CheckError p) × IsOfNoHeight (errors.CheckError p)) saved
IsOfOtherFolder saved errors.NoMemory = ⊥

-- what is seen are these events; each of these has one that stands for it; no two are of one kind and sequence
abbrev pub HaveEventsOf : List PacketEvent → List SeenPacket → Type 0
HaveEventsOf events packets =
    All (λ (p : SeenPacket). Contains events p.event.now) packets × All (λ e. Any (StandsFor e) packets) events × IsDistinct are_of_one packets

-- so it is with the events that are wanted of a path
abbrev pub HaveEvents : PathSetup → List Saved → List SeenPacket → Type 0
HaveEvents setup saved packets = HaveEventsOf (wanted_of setup saved) packets

-- ---- until when packets are received

abbrev pub within_heights : ℕ → ℕ
within_heights n = if nat_lt n 1 then 1 else if nat_lt n (2 ^ 63) then n else 2 ^ 63 - 1

-- the height of a chain of this revision from which on a packet with this timeout isn't received any more; 0 is none (ICS 2: a height of a
-- later revision is above all heights of an earlier one; 0-0 is none; CometBFT's heights are from 1 to 2^63 - 1)
abbrev pub expiry_at : ℕ → RevisionHeight → ℕ
expiry_at revision timeout =
    if (timeout.revision == 0 && timeout.height == 0) || nat_lt revision timeout.revision then 0
    else if nat_lt timeout.revision revision then 1
    else within_heights timeout.height

abbrev pub ExpiresAt : ℕ → SeenPacket → Type 0
ExpiresAt revision p = p.expiry ≡ expiry_at revision p.event.now.timeout_height

-- the packet's timeout is read for the revision of its destination's chain
abbrev pub Expires : List ℕ → SeenPacket → Type 0
Expires dest p = (revision : ℕ) × IsRevision dest revision × ExpiresAt revision p

-- ---- searches that aren't there

-- whether an answer tells of an event of this kind, or of which packets that was done
abbrev pub tells_of : PacketKind → NodeAnswer → Bool
tells_of kind (answers.Commit header) = false
tells_of kind (answers.Validators page) = false
tells_of kind (answers.ClientState state) = false
tells_of kind (answers.ConsensusStates page) = false
tells_of kind (answers.Transactions page) = list_any (λ (e : PacketEvent). counts_as e.kind kind) page.events.items
tells_of kind (answers.Pending p) = tells_done kind p
tells_of kind (answers.Verdicts v) = false
tells_of kind (answers.Other query) = false

-- whether none of a path's answers tells of an event of this kind
abbrev pub lacks : PacketKind → List Saved → Bool
lacks kind saved = not (list_any (λ (s : Saved). tells_of kind s.answer) saved)

-- whether an answer of `/tx_search` tells of no packet
abbrev pub is_empty : NodeAnswer → Bool
is_empty (answers.Commit header) = false
is_empty (answers.Validators page) = false
is_empty (answers.ClientState state) = false
is_empty (answers.ConsensusStates page) = false
is_empty (answers.Transactions page) = length page.events.items == 0
is_empty (answers.Pending p) = false
is_empty (answers.Verdicts v) = false
is_empty (answers.Other query) = false

-- whether a file has an answer of `/tx_search` that tells of no packet
unfoldable pub is_silent : Saved → Bool
is_silent s = is_empty s.answer

abbrev pub one_if : Bool → ℕ
one_if holds = if holds then 1 else 0

-- of how many of the three kinds that are searched for no answer tells
abbrev pub lacking : Searches → ℕ
lacking s = one_if s.lacks_sent + one_if s.lacks_received + one_if s.lacks_cleared
