-- How things stand: what was seen and settled so far. What an event makes of it, and why one is refused (own choice, over
-- books, ICS 4 and the client's machine).
use Rattle.std.specs.Prelude.{ℕ, ◌+◌, ◌-◌, ◌<◌, ◌==◌, Bool, true, false, ◌&&◌, ◌||◌, nat_lt, nat_le, List, [], length, replicate, map, fold, sum_by, take, filter_map, Option, Some, None, is_some, unwrap_or, slice_get, slice_index_or, slice_set, if◌then◌else◌}
use Rattle.std.specs.List.{list_any, enumerate_from}
use Rattle.std.specs.Option.{option_map, option_map_or, option_and_then, option_or}
use Rattle.rb_base.specs.Window.{Span}
use Rattle.rb_batch.specs.declared.transaction.Transaction.{Transaction}
use Rattle.rb_book.specs.Book.{Book, heights_and_times_of}
use Rattle.rb_book.specs.Intake.{set_refusal, header_refusal, record_refusal, after_set, after_header, after_record, placed}
use Rattle.rb_script_types.specs.declared.goal.Goal.{Goal}
use Rattle.rb_scan.specs.Owed.{owed_part, packet_at, next_sequence, same_kind}
use Rattle.rb_scan.specs.Packet.{Packet, is_cleared}
use Rattle.rb_scan.specs.Path.{Path}
use Rattle.rb_scan.specs.Orders.{same_order}
use Rattle.rb_scan.specs.declared.message.Kind.{Kind}
use Rattle.rb_scan.specs.declared.message.Kind.TheVariants.{Receive, Acknowledge, Timeout}
use Rattle.rb_scan.specs.declared.message.PacketMsg.{PacketMsg}
use Rattle.rb_scan.specs.declared.path.Order.TheVariants.{Ordered}
use Rattle.rb_base.specs.declared.gate.Part.{Part}
use Rattle.rb_step.specs.LightClient.{Update}
use Rattle.rb_script_types.specs.Config.{Config}
use Rattle.rb_script_types.specs.declared.block.Block.{Block}
use Rattle.rb_script_types.specs.declared.config.ClientConfig.{ClientConfig}
use Rattle.rb_script_types.specs.declared.config.PathConfig.{PathConfig}
use Rattle.rb_core_model.specs.Config.{part_for}
use Rattle.rb_plan_client.specs.Draft.{Sending, nothing, too_big, batched, Plan, Planned as Answer}
use Rattle.rb_core_model.specs.Event.{Event, Window, HostWindow, Asked, SetSeen, HeaderSeen, StoredSeen, Sent, Received, AckWritten, Cleared, Closed, Scanned, Planned, Settled}
use Rattle.rb_script_types.specs.Refusal.{of_book}
use Rattle.rb_script_types.specs.declared.refusal.Refusal.{Refusal}
use Rattle.rb_script_types.specs.declared.refusal.Refusal.TheVariants.{Full, Repeat, OutOfOrder, WindowBack}
use Rattle.rb_core_model.specs.Refusal.{refused_if}
use Rattle.rb_plan_client.specs.Task.{PathTask, Task, Message}

-- a batch that was opened: its number, the height that it proves its packets at, its messages, the updates first, and its
-- transactions
pub record OpenBatch : Type 0 where
  pub number : ℕ
  pub proof : ℕ
  pub updates : List Update
  pub messages : List Message
  pub transactions : List Transaction

-- a client: its configuration, the window of its host where that has one of its own, the heights that it has stored, rising, the goal that it was
-- asked for, how many batches it has opened, and the one that is open
pub record ClientState : Type 0 where
  pub config : ClientConfig
  pub window : Option Span
  pub stored : List ℕ
  pub asked : Option Goal
  pub batches : ℕ
  pub batch : Option OpenBatch

-- a path: its configuration, its first sequence (all lower ones are finished and cleared), the packets that were sent, by rising sequence, and
-- whether it is closed
pub record PathState : Type 0 where
  pub config : PathConfig
  pub first : ℕ
  pub packets : List Packet
  pub closed : Bool

-- the window, a book for each chain, the clients and the paths
pub record Standing : Type 0 where
  pub window : Option Span
  pub books : List Book
  pub clients : List ClientState
  pub paths : List PathState

-- ---- before the first event

abbrev pub empty_book : ℕ → Book
empty_book limit = record { limit = limit; sets = []; records = []; headers = [] }

abbrev pub new_client : ClientConfig → ClientState
new_client config = record { config = config; window = None; stored = []; asked = None; batches = 0; batch = None }

abbrev pub new_path : PathConfig → PathState
new_path config = record { config = config; first = config.first; packets = []; closed = false }

abbrev pub opening_standing : Config → Standing
opening_standing c = record {
  window = None;
  books = replicate (length c.chains) (empty_book c.limit);
  clients = map new_client c.clients;
  paths = map new_path c.paths;
}

-- ---- what is seen of it

abbrev pub book_at : List Book → ℕ → Book
book_at books chain = slice_index_or books chain (empty_book 1)

-- the chain that a client tracks
abbrev pub tracked : List ClientState → ℕ → ℕ
tracked clients client = option_map_or (λ (c : ClientState). c.config.tracks) (slice_get clients client) 0

-- a path as it is scanned
abbrev pub view_of_path : List Book → PathState → Path
view_of_path books p = record {
  order = p.config.order;
  first = p.first;
  packets = p.packets;
  closed = p.closed;
  destination = heights_and_times_of (book_at books p.config.destination);
}

abbrev pub path_view : Standing → ℕ → Option Path
path_view s path = option_map (view_of_path s.books) (slice_get s.paths path)

-- what a part of a path owes
abbrev pub owed_at : Standing → ℕ → Part → List PacketMsg
owed_at s path part = option_map_or (λ v. owed_part v part) (path_view s path) []

-- the paths of a client, with the messages that are for it, by what each part of each path owes
abbrev pub path_task : (ℕ → Part → List PacketMsg) → ℕ → ℕ × PathState → Option PathTask
path_task owed client (place, p) =
    option_map (λ part. record { path = place; order = p.config.order; gas = p.config.gas; waits = p.config.waits; owed = owed place part }) (part_for p.config client)

abbrev pub path_tasks : (ℕ → Part → List PacketMsg) → List PathState → ℕ → List PathTask
path_tasks owed paths client = filter_map (path_task owed client) (enumerate_from 0 paths)

-- the window of a client, this being the common one: that of its host, or else the common one
abbrev pub window_for : Span → ClientState → Span
window_for window c = unwrap_or c.window window

-- a client, this being the common window, over the book of the chain that it tracks, with paths
abbrev pub task_of : Span → List Book → List PathTask → ClientState → Task
task_of window books paths c = record {
  config = c.config;
  stored = c.stored;
  window = window_for window c;
  book = book_at books c.config.tracks;
  paths = paths;
  asked = c.asked;
}

-- what a client is to be brought to as things stand, this being the common window: all that its paths owe it counts
abbrev pub task_in : Standing → Span → ℕ → ClientState → Task
task_in s window client c = task_of window s.books (path_tasks (owed_at s) s.paths client) c

-- ---- why an event is refused

-- a window goes back where one of its ends does
abbrev pub goes_back : Option Span → Span → Bool
goes_back None window = false
goes_back (Some present) window = nat_lt window.from present.from || nat_lt window.until present.until

-- the window of a host does where that of a client there does
abbrev pub goes_back_on : Option Span → ℕ → Span → ClientState → Bool
goes_back_on common host window c = (c.config.host == host) && goes_back (option_or c.window common) window

-- the most packets of a path (own choice)
abbrev pub max_packets : ℕ
max_packets = 4096

-- a packet is sent once, and none below the path's first sequence
abbrev pub sent_refusal : Path → ℕ → Option Refusal
sent_refusal v sequence =
    refused_if (nat_lt sequence v.first) OutOfOrder (
    refused_if (is_some (packet_at v sequence)) Repeat (
    refused_if (nat_le max_packets (length v.packets)) Full None))

-- on an ORDERED path a lower sequence is not finished
abbrev pub comes_early : Path → ℕ → Bool
comes_early v sequence = same_order v.order Ordered && nat_lt (next_sequence v Receive) sequence

-- a packet is received once, after it was sent and in its turn
abbrev pub received_refusal : Path → ℕ → Option Packet → Option Refusal
received_refusal v sequence None = Some OutOfOrder
received_refusal v sequence (Some p) = refused_if (comes_early v sequence) OutOfOrder (refused_if (is_some p.received) Repeat None)

-- an acknowledgement is written once, and not before its packet was received
abbrev pub written_refusal : ℕ → Option Packet → Option Refusal
written_refusal block None = Some OutOfOrder
written_refusal block (Some p) =
    refused_if (option_map_or (λ received. nat_lt block received) p.received true) OutOfOrder (refused_if (is_some p.written) Repeat None)

-- a packet is cleared once, after it was sent; one whose acknowledgement or timeout is settled is cleared
abbrev pub cleared_refusal : Option Packet → Option Refusal
cleared_refusal None = Some OutOfOrder
cleared_refusal (Some p) = refused_if (is_cleared p) Repeat None

-- a client's batch with this number, if it is the open one
abbrev pub open_batch : ClientState → ℕ → Option OpenBatch
open_batch c number = option_and_then (λ (b : OpenBatch). if b.number == number then Some b else None) c.batch

-- a batch is settled once, while it is open, and no more of it than it has
abbrev pub settled_refusal_of : ClientState → ℕ → ℕ → Option OpenBatch → Option Refusal
settled_refusal_of c number done None = refused_if (nat_le 1 number && nat_le number c.batches) Repeat (Some OutOfOrder)
settled_refusal_of c number done (Some b) = refused_if (nat_lt (length b.transactions) done) OutOfOrder None

abbrev pub settled_refusal : ClientState → ℕ → ℕ → Option Refusal
settled_refusal c number done = settled_refusal_of c number done (open_batch c number)

-- why an event is refused by how things stand: the first reason that applies. Scans and plans are judged by the relayer.
abbrev pub judged : Standing → Event → Option Refusal
judged s (Window window) = refused_if (goes_back s.window window) WindowBack None
judged s (HostWindow host window) = refused_if (list_any (goes_back_on s.window host window) s.clients) WindowBack None
judged s (Asked client goal) = None
judged s (SetSeen chain set) = option_and_then of_book (set_refusal (book_at s.books chain) set)
judged s (HeaderSeen chain header) = option_and_then of_book (header_refusal (book_at s.books chain) header)
judged s (StoredSeen client height r) = option_and_then of_book (record_refusal (book_at s.books (tracked s.clients client)) height r)
judged s (Sent path sequence block timeout_height timeout_time) = option_and_then (λ v. sent_refusal v sequence) (path_view s path)
judged s (Received path sequence block) = option_and_then (λ v. received_refusal v sequence (packet_at v sequence)) (path_view s path)
judged s (AckWritten path sequence block) = option_and_then (λ v. written_refusal block.height (packet_at v sequence)) (path_view s path)
judged s (Cleared path sequence) = option_and_then (λ v. cleared_refusal (packet_at v sequence)) (path_view s path)
judged s (Closed path) = option_and_then (λ (v : Path). refused_if v.closed Repeat None) (path_view s path)
judged s (Scanned path scan) = None
judged s (Planned d) = None
judged s (Settled client number done) = option_and_then (λ c. settled_refusal c number done) (slice_get s.clients client)

-- ---- what an event makes of it

abbrev pub with_book : Standing → ℕ → Book → Standing
with_book s chain book = record s { books = slice_set s.books chain book }

-- the list with the element at a place changed
abbrev pub changed_at : {X : Type 0} → (X → X) → List X → ℕ → List X
changed_at f xs place = option_map_or (λ x. slice_set xs place (f x)) (slice_get xs place) xs

abbrev pub with_client : Standing → ℕ → (ClientState → ClientState) → Standing
with_client s client f = record s { clients = changed_at f s.clients client }

abbrev pub with_path : Standing → ℕ → (PathState → PathState) → Standing
with_path s path f = record s { paths = changed_at f s.paths path }

-- a client after its host, if it is this one, was given a window
abbrev pub in_host_window : ℕ → Span → ClientState → ClientState
in_host_window host window c = if c.config.host == host then record c { window = Some window } else c

-- rising heights with one more, which may be there already
abbrev pub with_height : ℕ → List ℕ → List ℕ
with_height height heights =
    if list_any (λ h. h == height) heights then heights else placed (λ h. nat_lt h height) height heights

-- the packets with one more in its place
abbrev pub with_packet : Packet → PathState → PathState
with_packet q p = record p { packets = placed (λ (other : Packet). nat_lt other.sequence q.sequence) q p.packets }

abbrev pub new_packet : ℕ → Block → Option ℕ → Option ℕ → Packet
new_packet sequence block timeout_height timeout_time = record {
  sequence = sequence;
  sent = block.height;
  sent_time = block.time;
  timeout_height = timeout_height;
  timeout_time = timeout_time;
  received = None;
  written = None;
  written_time = None;
  cleared = false;
  receive_settled = false;
  outcome_settled = false;
}

-- the path with the packet of a sequence changed
abbrev pub marked : (Packet → Packet) → ℕ → Packet → Packet
marked f sequence q = if q.sequence == sequence then f q else q

abbrev pub with_mark : (Packet → Packet) → ℕ → PathState → PathState
with_mark f sequence p = record p { packets = map (marked f sequence) p.packets }

-- ---- plans and batches

-- the batch that a plan opens under a number, if it opens one
abbrev pub batch_of_sending : ℕ → Plan → Sending → Option OpenBatch
batch_of_sending number p nothing = None
batch_of_sending number p (too_big index) = None
batch_of_sending number p (batched b) =
    Some (record { number = number; proof = b.proof; updates = p.updates; messages = p.messages; transactions = b.transactions })

abbrev pub batch_of : ℕ → Option Answer → Option OpenBatch
batch_of number answer =
    option_and_then (λ (a : Answer). option_and_then (λ (p : Plan). batch_of_sending number p p.sending) a.plan) answer

-- batches are numbered from 1
abbrev pub batch_opened : ClientState → Option Answer → Option OpenBatch
batch_opened c answer = batch_of (c.batches + 1) answer

-- the open batch of the client at a place
abbrev pub batch_open : Standing → ℕ → Option OpenBatch
batch_open s client = option_and_then (λ (c : ClientState). c.batch) (slice_get s.clients client)

-- a client after a plan: what it was asked for is done with, and the plan's batch is open
abbrev pub with_batch : ClientState → Option OpenBatch → ClientState
with_batch c None = record c { asked = None; batch = None }
with_batch c (Some b) = record c { asked = None; batches = b.number; batch = Some b }

abbrev pub after_answer : Option Answer → ClientState → ClientState
after_answer answer c = with_batch c (batch_opened c answer)

-- ---- settlements

-- how many messages the first transactions of a batch carry
abbrev pub count_in : OpenBatch → ℕ → ℕ
count_in b done = sum_by (λ (t : Transaction). t.count) (take done b.transactions)

-- the updates and the packet messages among them
abbrev pub settled_updates : OpenBatch → ℕ → List Update
settled_updates b done = take (count_in b done) b.updates

abbrev pub settled_messages : OpenBatch → ℕ → List Message
settled_messages b done = take (count_in b done - length b.updates) b.messages

-- a client after a batch of its was settled: the heights of those updates are stored, and the batch is closed
abbrev pub after_batch : OpenBatch → ℕ → ClientState → ClientState
after_batch b done c =
    record c { stored = fold (λ heights (u : Update). with_height u.height heights) c.stored (settled_updates b done); batch = None }

-- a packet after a message for it was settled
abbrev pub mark_of : Kind → Packet → Packet
mark_of Receive q = record q { receive_settled = true }
mark_of Acknowledge q = record q { outcome_settled = true }
mark_of Timeout q = record q { outcome_settled = true }

-- a path after it: a settled timeout closes an ORDERED path
abbrev pub after_message : PacketMsg → PathState → PathState
after_message m p = record (with_mark (mark_of m.kind) m.sequence p) { closed = p.closed || (same_kind m.kind Timeout && same_order p.config.order Ordered) }

abbrev pub after_messages : List PathState → List Message → List PathState
after_messages paths ms = fold (λ paths (m : Message). changed_at (after_message m.packet) paths m.path) paths ms

abbrev pub after_settled : Standing → ℕ → ℕ → Option OpenBatch → Standing
after_settled s client done None = s
after_settled s client done (Some b) =
    record s { clients = changed_at (after_batch b done) s.clients client; paths = after_messages s.paths (settled_messages b done) }

-- ---- events

-- the chain that a client tracks is there
abbrev pub AreTracked : Standing → Type 0
AreTracked s = (client : ℕ) → client < length s.clients → tracked s.clients client < length s.books

-- how things stand after an event that is not refused
abbrev pub changed : Standing → Event → Standing
changed s (Window window) = record s { window = Some window }
changed s (HostWindow host window) = record s { clients = map (in_host_window host window) s.clients }
changed s (Asked client goal) = with_client s client (λ c. record c { asked = Some goal })
changed s (SetSeen chain set) = with_book s chain (after_set (book_at s.books chain) set)
changed s (HeaderSeen chain header) = with_book s chain (after_header (book_at s.books chain) header)
changed s (StoredSeen client height r) =
    with_client (with_book s (tracked s.clients client) (after_record (book_at s.books (tracked s.clients client)) height r)) client
    (λ c. record c { stored = with_height height c.stored })
changed s (Sent path sequence block timeout_height timeout_time) =
    with_path s path (with_packet (new_packet sequence block timeout_height timeout_time))
changed s (Received path sequence block) = with_path s path (with_mark (λ q. record q { received = Some block }) sequence)
changed s (AckWritten path sequence block) =
    with_path s path (with_mark (λ q. record q { written = Some block.height; written_time = block.time }) sequence)
changed s (Cleared path sequence) = with_path s path (with_mark (λ q. record q { cleared = true }) sequence)
changed s (Closed path) = with_path s path (λ p. record p { closed = true })
changed s (Scanned path scan) = s
changed s (Planned d) = with_client s d.job.client (after_answer d.answer)
changed s (Settled client number done) =
    after_settled s client done (option_and_then (λ c. open_batch c number) (slice_get s.clients client))

-- one that is refused changes nothing
abbrev pub standing_after : Standing → Event → Standing
standing_after s event = if is_some (judged s event) then s else changed s event
