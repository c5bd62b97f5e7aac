use Rattle.std.proofs.Common.{◌≡◌, ◌++◌, drop, map}
use Rattle.rb_import_notices.specs.Packets.{packet_left_out}
use Rattle.rb_import_notices.proofs.packets.add_each.Given as goal

-- the notices so far, and those of the packets that are left
abbrev pub invariant-loop-packet : goal.invariant-loop-packet
invariant-loop-packet l =
    l.list.items ++ map (packet_left_out l.saved l.path) (drop l.packet-index l.packets) ≡ l.initial.list.items ++ map (packet_left_out l.saved l.path) l.packets
