use Rattle.std.specs.Prelude.{flat_map, take}
use Rattle.std.specs.Fmt.{HasWritten, IsPlainFormatter}
use Rattle.rb_want_requests.specs.PacketPaths.{encoded_byte}
use Rattle.rb_want_requests.proofs.packet_lines.write_encoded.Given as goal

-- the bytes so far are written
abbrev pub invariant-loop-byte : goal.invariant-loop-byte
invariant-loop-byte g l =
    IsPlainFormatter l.initial.f → HasWritten g.W.Write.write_str_gives l.initial.f (flat_map encoded_byte (take l.byte-index l.byte-items)) l.f
