use Rattle.std.proofs.Common.{◌≡◌, ◌++◌, drop, map}
use Rattle.rb_import.specs.Events.{packet_in}
use Rattle.rb_import.proofs.paths.push_packets.Given as goal

-- what is added, and what is left
abbrev pub invariant-loop-packet : goal.invariant-loop-packet
invariant-loop-packet l =
    l.events.items ++ map (packet_in l.seen l.place l.path) (drop l.packet-index l.packets)
    ≡ l.initial.events.items ++ map (packet_in l.seen l.place l.path) l.packets
