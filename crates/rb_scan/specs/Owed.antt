-- the messages that a path owes (ICS 4; the consecutive runs of ORDERED paths and the floors: own choice)
use Rattle.std.specs.Prelude.{ℕ, ◌+◌, ◌==◌, nat_le, nat_lt, max, Bool, true, false, not, ◌&&◌, List, [], ◌++◌, length, map, filter, find, filter_map, Option, Some, None, if◌then◌else◌}
use Rattle.std.specs.List.{prefix_len, position_or_len, range_with_len, enumerate_from, reduce}
use Rattle.std.specs.Option.{option_map, option_map_or, option_and_then, option_to_list, some_prefix}
use Rattle.rb_scan.specs.Packet.{Packet, is_finished, is_cleared, is_in_flight}
use Rattle.rb_scan.specs.Path.{Path}
use Rattle.rb_scan.specs.Expiry.{is_expired, timeout_floor, expires_from}
use Rattle.rb_scan.specs.declared.path.Order.{Order}
use Rattle.rb_scan.specs.declared.path.Order.TheVariants.{Ordered, Unordered}
use Rattle.rb_scan.specs.declared.message.Kind.{Kind}
use Rattle.rb_scan.specs.declared.message.Kind.TheVariants.{Receive, Acknowledge, Timeout}
use Rattle.rb_scan.specs.declared.message.PacketMsg.{PacketMsg}
use Rattle.rb_base.specs.declared.gate.Part.{Part}
use Rattle.rb_base.specs.declared.gate.Part.TheVariants.{Packets, Channel}

-- the table: the floor of each message that is owed for a packet, where the path is not closed
abbrev pub floor_of : List (ℕ × ℕ) → Kind → Packet → Option ℕ
floor_of records Receive p = if is_in_flight p && not (is_expired records p) then Some (p.sent + 1) else None
floor_of records Acknowledge p = if is_cleared p then None else option_map (λ (block : ℕ). block + 1) p.written
floor_of records Timeout p = if is_in_flight p && is_expired records p then timeout_floor records p else None

-- the moment from which on a message of a kind may be in vain: that from which on its packet may have expired, of a receive alone
abbrev pub expires_for : Kind → Packet → Option ℕ
expires_for Receive p = expires_from p
expires_for Acknowledge p = None
expires_for Timeout p = None

-- the time of the block that wrote what a message of a kind proves, where it is told: the packet of a receive, the acknowledgement
abbrev pub since_for : Kind → Packet → Option ℕ
since_for Receive p = p.sent_time
since_for Acknowledge p = p.written_time
since_for Timeout p = None

-- the time of the destination from which on it takes no message of a kind, of a receive alone
abbrev pub timeout_for : Kind → Packet → Option ℕ
timeout_for Receive p = p.timeout_time
timeout_for Acknowledge p = None
timeout_for Timeout p = None

abbrev pub message_of : List (ℕ × ℕ) → Kind → Packet → Option PacketMsg
message_of records kind p =
    option_map
    (λ (floor : ℕ). record { kind = kind; sequence = p.sequence; floor = floor; expires = expires_for kind p; since = since_for kind p; timeout = timeout_for kind p })
    (floor_of records kind p)

-- the packet that was sent under a sequence, and the message that the table has for it
abbrev pub packet_at : Path → ℕ → Option Packet
packet_at path s = find (λ (p : Packet). p.sequence == s) path.packets

abbrev pub message_at : Path → Kind → ℕ → Option PacketMsg
message_at path kind s = option_and_then (message_of path.destination kind) (packet_at path s)

-- what ends a packet's wait for a message of a kind: being cleared for an acknowledgement, a finished receive for
-- the others
abbrev pub is_done : Kind → Packet → Bool
is_done Receive p = is_finished p
is_done Acknowledge p = is_cleared p
is_done Timeout p = is_finished p

abbrev pub is_done_at : Path → Kind → ℕ → Bool
is_done_at path kind s = option_map_or (is_done kind) (packet_at path s) false

-- consecutive sequences from s on, as many as there are packets: no run is longer
abbrev pub sequences_from : Path → ℕ → List ℕ
sequences_from path s = range_with_len s (length path.packets)

-- the least sequence that is not finished, for acknowledgements not cleared; all below `first` are both
abbrev pub next_sequence : Path → Kind → ℕ
next_sequence path kind = path.first + prefix_len (is_done_at path kind) (sequences_from path path.first)

-- the messages of consecutive sequences from the next one on, as far as each is owed
abbrev pub run : Path → Kind → List PacketMsg
run path kind = some_prefix (map (message_at path kind) (sequences_from path (next_sequence path kind)))

-- the messages of a kind where the path is not closed: on an UNORDERED path all that the table has; on an ORDERED one
-- the runs, and one timeout, if the table has it for the next sequence (there is then no run of receives, since what
-- has expired is owed no receive)
abbrev pub open_messages : Order → Path → Kind → List PacketMsg
open_messages Unordered path kind = filter_map (message_of path.destination kind) path.packets
open_messages Ordered path Receive = run path Receive
open_messages Ordered path Acknowledge = run path Acknowledge
open_messages Ordered path Timeout = option_to_list (message_at path Timeout (next_sequence path Timeout))

-- a closed path owes nothing
abbrev pub messages : Path → Kind → List PacketMsg
messages path kind = if path.closed then [] else open_messages path.order path kind

-- the part Packets is the receives, the part Channel the acknowledgements and the timeouts
abbrev pub owed_part : Path → Part → List PacketMsg
owed_part path Packets = messages path Receive
owed_part path Channel = messages path Acknowledge ++ messages path Timeout

abbrev pub owed : Path → List PacketMsg
owed path = owed_part path Packets ++ owed_part path Channel

-- ---- which messages of a path's list are ready, the reach being the greatest height that is labelled (own choice)
abbrev pub same_kind : Kind → Kind → Bool
same_kind Receive Receive = true
same_kind Acknowledge Acknowledge = true
same_kind Timeout Timeout = true
same_kind _ _ = false

-- where the run of a kind ends in an ORDERED list: the place of the first message of that kind that is out of reach
abbrev pub run_end : ℕ → Kind → List PacketMsg → ℕ
run_end reach kind ms = position_or_len (λ (m : PacketMsg). same_kind m.kind kind && nat_lt reach m.floor) ms

-- a message is ready where its floor is within reach; in an ORDERED list a receive and an acknowledgement is ready
-- where it stands before the end of its run
abbrev pub is_ready : Order → ℕ → List PacketMsg → ℕ → PacketMsg → Bool
is_ready Unordered reach ms place m = nat_le m.floor reach
is_ready Ordered reach ms place m =
    if same_kind m.kind Timeout then nat_le m.floor reach else nat_lt place (run_end reach m.kind ms)

-- the ready messages in the list's order; with no reach none is
abbrev pub ready : List PacketMsg → Order → Option ℕ → List PacketMsg
ready ms order None = []
ready ms order (Some reach) =
    map (λ (p : ℕ × PacketMsg). p.1) (filter (λ (p : ℕ × PacketMsg). is_ready order reach ms p.0 p.1) (enumerate_from 0 ms))

-- the message at a place is ready at a near reach, if there is one
abbrev pub is_near : Order → Option ℕ → List PacketMsg → ℕ → PacketMsg → Bool
is_near order None ms place m = false
is_near order (Some near) ms place m = is_ready order near ms place m

-- the messages that are ready at the reach and not at the near one, in the list's order
abbrev pub ready_beyond : List PacketMsg → Order → Option ℕ → Option ℕ → List PacketMsg
ready_beyond ms order near None = []
ready_beyond ms order near (Some reach) =
    map (λ (p : ℕ × PacketMsg). p.1)
    (filter (λ (p : ℕ × PacketMsg). is_ready order reach ms p.0 p.1 && not (is_near order near ms p.0 p.1)) (enumerate_from 0 ms))

-- the greatest floor
abbrev pub wanted : List PacketMsg → Option ℕ
wanted ms = reduce max (map (λ (m : PacketMsg). m.floor) ms)
