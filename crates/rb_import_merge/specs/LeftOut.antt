-- Which packets of a path are left out, and why (ICS 4: a packet is sent, then received, then its acknowledgement is written; an ORDERED channel
-- receives its packets by rising sequence).
use Rattle.std.specs.Prelude.{◌≡◌, ◌⊎◌, ◌↔◌, ◌≤◌, ℕ, ◌-◌, ◌==◌, nat_le, nat_lt, Bool, true, false, not, ◌&&◌, ◌||◌, if◌then◌else◌, List, [], ◌∷◌, ◌++◌, Option, Some, None, is_some, All, Any, Contains, length, map, filter, take, get_or, string_bytes}
use Rattle.std.specs.Borrow.{Bor}
use Rattle.std.specs.List.{flat_map, list_any}
use Rattle.std.specs.List.Sorted.{IsStrictlyIncreasing}
use Rattle.std.specs.Ordering.{nat_cmp}
use Rattle.std.specs.declared.cmp.Ordering.{Ordering}
use Rattle.rb_scan.specs.declared.path.Order.{Order}
use Rattle.rb_import_answers.specs.declared.packets.PacketEvent.{PacketEvent}
use Rattle.rb_import_answers.specs.declared.packets.PacketKind.{PacketKind}
use Rattle.rb_import_setup.specs.declared.setup.PathSetup.{PathSetup}
use Rattle.rb_import_check.specs.declared.saved.Saved.{Saved}
use Rattle.rb_import_merge.specs.declared.left_out.LeftOutPacket.{LeftOutPacket}
use Rattle.rb_import_merge.specs.declared.left_out.PacketLack.{PacketLack}
use Rattle.rb_import_merge.specs.declared.packets.SeenPacket.{SeenPacket}
use Rattle.rb_import_merge.specs.declared.surplus.Surplus.{Surplus}
use Rattle.rb_import_merge.specs.Packets.{HaveEventsOf, counts_as, filed_events_of, is_silent, place_of, tells_of, wanted_of}
use Rattle.rb_import_merge.specs.Pending.{committed_in, lacks_receipt, tell_commitments, tell_unreceived}

-- ---- what a packet lacks

-- whether the answers tell of an event of this kind of the path's packet of a sequence
abbrev pub was_told : PathSetup → List Saved → PacketKind → ℕ → Bool
was_told setup saved kind n = list_any (λ (e : PacketEvent). place_of e.kind == place_of kind && e.sequence == n) (wanted_of setup saved)

-- whether the packet of a sequence was received, as answers on the pending packets tell: it isn't among those that weren't
abbrev pub is_told_received : List Saved → ℕ → Bool
is_told_received saved n = (tell_commitments saved && tell_unreceived saved) && not (lacks_receipt saved n)

-- whether an answer tells of packets that were received or weren't, or is of a search that found nothing
unfoldable pub tells_receipts : Saved → Bool
tells_receipts s = tells_of PacketKind.Received s.answer || is_silent s

-- whether answers tell which packets were received: where they tell which packets are pending, which of these weren't
abbrev pub tell_receipts : List Saved → Bool
tell_receipts saved = if tell_commitments saved then tell_unreceived saved else list_any tells_receipts saved

-- what a packet lacks by the kinds of its events, whether it was received as answers on the pending packets tell, and whether answers tell which
-- packets were received: its sending; its receiving, where its acknowledgement was written or it was received; whether it was received, where it
-- isn't cleared
abbrev pub lack_by : (PacketKind → Bool) → Bool → Bool → Option PacketLack
lack_by was is_received tell_which =
    if not (was PacketKind.Sent) then Some PacketLack.Send
    else if was PacketKind.Received then None
    else if was PacketKind.AckWritten || is_received then Some PacketLack.Receive
    else if tell_which || was PacketKind.Cleared || was PacketKind.TimedOut then None
    else Some PacketLack.Receipt

-- what the path's packet of a sequence lacks
abbrev pub lack : PathSetup → List Saved → ℕ → Option PacketLack
lack setup saved n = lack_by (λ kind. was_told setup saved kind n) (is_told_received saved n) (tell_receipts saved)

-- the same of a sequence that isn't below a first one
abbrev pub lack_from : ℕ → ℕ → Option PacketLack → Option PacketLack
lack_from first n lacking = if nat_lt n first then None else lacking

-- ---- which packets are left out

-- whether a packet that lacks something leaves out the packet of a sequence: its own, and on an ORDERED path each higher one
abbrev pub leaves_out : Order → ℕ → ℕ → Bool
leaves_out Order.Ordered lacking n = nat_le lacking n
leaves_out Order.Unordered lacking n = lacking == n

-- the sequences of the path's packets that its answers tell of, by events or commitments
abbrev pub sequences_of : PathSetup → List Saved → List ℕ
sequences_of setup saved =
    map (λ (e : PacketEvent). e.sequence) (wanted_of setup saved) ++ filter (nat_le setup.config.first) (flat_map (λ (s : Saved). committed_in s.answer) saved)

-- whether the path's packet of a sequence is left out: it lacks something, or on an ORDERED path one of a lower sequence does
abbrev pub is_left_out : PathSetup → List Saved → ℕ → Bool
is_left_out setup saved n = list_any (λ m. leaves_out setup.config.order m n && is_some (lack setup saved m)) (sequences_of setup saved)

-- whether an event of a kind shows that its packet lacks this: its acknowledgement was written, or it was sent
abbrev pub shows : PacketLack → PacketKind → Bool
shows PacketLack.Send kind = true
shows PacketLack.Receive PacketKind.AckWritten = true
shows PacketLack.Receipt PacketKind.Sent = true
shows lacking kind = false

abbrev pub shown_by : PacketKind → Option PacketLack → Option PacketLack
shown_by kind (Some lacking) = if shows lacking kind then Some lacking else None
shown_by kind None = None

-- an answer in this file has an event of the packet that shows what it lacks, or tells of a commitment to it
abbrev pub IsShownIn : PathSetup → List Saved → LeftOutPacket → Type 0
IsShownIn setup saved l =
    Any
    (λ (e : PacketEvent). (e.sequence ≡ l.sequence) × (shows l.lack e.kind ≡ true) × Contains (filed_events_of saved) (e, l.file.now))
    (wanted_of setup saved)
    ⊎ ((setup.config.first ≤ l.sequence) × Any (λ (s : Saved). Contains (committed_in s.answer) l.sequence × (string_bytes s.file ≡ l.file.now)) saved)

-- this packet is left out for what it lacks, which an answer in its file shows
abbrev pub IsLeftOutFor : PathSetup → List Saved → LeftOutPacket → Type 0
IsLeftOutFor setup saved l = (lack setup saved l.sequence ≡ Some l.lack) × IsShownIn setup saved l

abbrev pub sequence_of : LeftOutPacket → ℕ
sequence_of l = l.sequence

-- whether one of these leaves out the packet of a sequence
abbrev pub left_out_by : Order → List LeftOutPacket → ℕ → Bool
left_out_by order left n = list_any (λ (l : LeftOutPacket). leaves_out order l.sequence n) left

-- these packets are left out, each for what it lacks, by rising sequence; with them those, and no others, that are to be; on an ORDERED path there
-- is no second one
abbrev pub AreLeftOut : PathSetup → List Saved → List LeftOutPacket → Type 0
AreLeftOut setup saved left =
    All (IsLeftOutFor setup saved) left
    × IsStrictlyIncreasing (map sequence_of left)
    × ((n : ℕ) → left_out_by setup.config.order left n ≡ is_left_out setup saved n)
    × (setup.config.order ≡ Order.Ordered → length left ≤ 1)

-- ---- for which packets there is no room

-- of the packets of these rising sequences all but the first 4,096 have no room
abbrev pub surplus_of : List ℕ → Option Surplus
surplus_of sequences =
    if nat_le (length sequences) 4096 then None
    else Some (record { count = length sequences - 4096; first = get_or sequences 4096 0; fitting_from = get_or sequences (length sequences - 4096) 0 })

-- the path's packet of this sequence was sent, and isn't left out
abbrev pub IsSentOn : PathSetup → List Saved → ℕ → Type 0
IsSentOn setup saved n = (was_told setup saved PacketKind.Sent n ≡ true) × (is_left_out setup saved n ≡ false)

-- of the packets that were sent and aren't left out those behind the first 4,096 have no room
abbrev pub HasSurplus : PathSetup → List Saved → Option Surplus → Type 0
HasSurplus setup saved surplus =
    (sequences : List ℕ) × IsStrictlyIncreasing sequences × ((n : ℕ) → Contains sequences n ↔ IsSentOn setup saved n) × (surplus ≡ surplus_of sequences)

-- whether there is room for the packet of a sequence
abbrev pub has_room : Option Surplus → ℕ → Bool
has_room (Some s) n = nat_lt n s.first
has_room None n = true

-- ---- which packets are taken

-- whether the path's packet of a sequence is taken: it isn't left out, and there is room for it
abbrev pub takes : PathSetup → List Saved → Option Surplus → ℕ → Bool
takes setup saved surplus n = not (is_left_out setup saved n) && has_room surplus n

-- what is seen are events of the path's packets that are taken; each of these has one that stands for it; no two are of one kind and sequence
abbrev pub HaveTaken : PathSetup → List Saved → Option Surplus → List SeenPacket → Type 0
HaveTaken setup saved surplus packets = HaveEventsOf (filter (λ (e : PacketEvent). takes setup saved surplus e.sequence) (wanted_of setup saved)) packets

-- whether one of the path's packets timed out
abbrev pub was_timed_out : PathSetup → List Saved → Bool
was_timed_out setup saved = list_any (λ (e : PacketEvent). counts_as e.kind PacketKind.TimedOut) (wanted_of setup saved)

-- ---- (internal) how they are found

-- an entry of the packet of a sequence with what it lacks, if it lacks something
abbrev pub entries : ℕ → Option PacketLack → Bor (List ℕ) → List LeftOutPacket
entries n (Some lacking) file = record { sequence = n; lack = lacking; file = file } ∷ []
entries n None file = []

-- one of these is of this sequence
unfoldable pub HasEntry : ℕ → List LeftOutPacket → Type 0
HasEntry n left = Any (λ (l : LeftOutPacket). l.sequence ≡ n) left

abbrev pub sequence_cmp : LeftOutPacket → LeftOutPacket → Ordering
sequence_cmp l m = nat_cmp l.sequence m.sequence

abbrev pub of_one_sequence : LeftOutPacket → LeftOutPacket → Bool
of_one_sequence l m = l.sequence == m.sequence

abbrev pub first_if_ordered : Order → List LeftOutPacket → List LeftOutPacket
first_if_ordered Order.Ordered left = take 1 left
first_if_ordered Order.Unordered left = left

-- whether a packet was sent, by an event of it
abbrev pub is_sent : SeenPacket → Bool
is_sent p = counts_as p.event.now.kind PacketKind.Sent

-- the sequences of the packets that were sent
abbrev pub sent_in : List SeenPacket → List ℕ
sent_in packets = map (λ (p : SeenPacket). p.event.now.sequence) (filter is_sent packets)
