-- Which messages of a path's list can go (own choice).
use Rattle.std.specs.Prelude.{ℕ, nat_le, nat_lt, Bool, false, not, ◌&&◌, List, map, filter}
use Rattle.std.specs.List.{position_or_len, enumerate_from}
use Rattle.std.specs.Option.{option_map_or}
use Rattle.rb_scan.specs.Owed.{same_kind}
use Rattle.rb_scan.specs.declared.bars.Bars.{Bars}
use Rattle.rb_scan.specs.declared.path.Order.{Order}
use Rattle.rb_scan.specs.declared.path.Order.TheVariants.{Ordered, Unordered}
use Rattle.rb_scan.specs.declared.message.Kind.{Kind}
use Rattle.rb_scan.specs.declared.message.Kind.TheVariants.{Receive, Acknowledge, Timeout}
use Rattle.rb_scan.specs.declared.message.PacketMsg.{PacketMsg}

-- no message of a kind can go: each is over the gas limit alone
abbrev pub is_barred : Bars → Kind → Bool
is_barred b Receive = b.receive
is_barred b Acknowledge = b.acknowledge
is_barred b Timeout = b.timeout

-- a receive may come too late: its timeout time comes by the end of the window (ICS 4, recvPacket: equality expires)
abbrev pub is_late : ℕ → PacketMsg → Bool
is_late until m = option_map_or (λ time. nat_le time until) m.timeout false

abbrev pub can_go : Bars → PacketMsg → Bool
can_go b m = not (is_barred b m.kind) && not (is_late b.until m)

-- where the messages of a kind end in an ORDERED list: the place of the first of that kind that can't go
abbrev pub going_end : (PacketMsg → Bool) → Kind → List PacketMsg → ℕ
going_end can kind ms = position_or_len (λ (m : PacketMsg). same_kind m.kind kind && not (can m)) ms

-- a message goes where it can, and in an ORDERED list where all of its kind before it can
abbrev pub is_going : Order → (PacketMsg → Bool) → List PacketMsg → ℕ → PacketMsg → Bool
is_going Unordered can ms place m = can m
is_going Ordered can ms place m = nat_lt place (going_end can m.kind ms)

-- those that go, in the list's order
abbrev pub going : Order → (PacketMsg → Bool) → List PacketMsg → List PacketMsg
going order can ms = map (λ (p : ℕ × PacketMsg). p.1) (filter (λ (p : ℕ × PacketMsg). is_going order can ms p.0 p.1) (enumerate_from 0 ms))
