-- What was done with a packet before (ICS 4: a packet is received, acknowledged or times out once it was sent; its acknowledgement is written once it
-- was received).
use Rattle.std.specs.Prelude.{List, Option, Some, None, IfSome}
use Rattle.rb_import_answers.specs.declared.packets.PacketKind.{PacketKind}
use Rattle.rb_import_merge.specs.declared.packets.SeenPacket.{SeenPacket}
use Rattle.rb_import_merge.specs.Committed.{WasSeen}

-- of what kind the event before is; none before a packet is sent
abbrev pub before : PacketKind → Option PacketKind
before PacketKind.Sent = None
before PacketKind.Received = Some PacketKind.Sent
before PacketKind.AckWritten = Some PacketKind.Received
before PacketKind.Cleared = Some PacketKind.Sent
before PacketKind.TimedOut = Some PacketKind.Sent

-- the packet's event before is among the packets, too
abbrev pub HasBefore : List SeenPacket → SeenPacket → Type 0
HasBefore packets p = IfSome (before p.event.now.kind) (λ kind. WasSeen packets kind p.event.now.sequence)
