use Rattle.std.proofs.Common.{◌≡◌, ℕ, ◌+◌, List, ◌++◌, drop}
use denote.Text.{Utf8}
use denote.Shadow.{shadow}
use Rattle.std.specs.Fmt.{HasWritten, IsPlainFormatter}
use Rattle.rb_want_requests.specs.PacketPaths.{listed, part_of, pending_in}
use Rattle.rb_want_requests.proofs.Parts.{part_from, rest_of}
use Rattle.rb_want_requests.proofs.packet_lines.write_part.Given as goal

-- what was written, and what is left of the part over the sequences that follow, is the part
abbrev pub invariant-loop-sequence : goal.invariant-loop-sequence
invariant-loop-sequence g l =
    shadow (Utf8 l.separator) × (IsPlainFormatter l.fn.f → (done : List ℕ) × HasWritten g.W.Write.write_str_gives l.fn.f done l.f
    × (done ++ part_from l.separator l.next l.left l.before (rest_of l.sequence-items l.sequence-index l.contents (l.content-index + 1))
    ≡ listed l.fn.first l.next (part_of l.fn.part (pending_in l.contents))))

abbrev pub invariant-loop-content : goal.invariant-loop-content
invariant-loop-content g l =
    shadow (Utf8 l.separator) × (IsPlainFormatter l.fn.f → (done : List ℕ) × HasWritten g.W.Write.write_str_gives l.fn.f done l.f
    × (done ++ part_from l.separator l.next l.left l.before (pending_in (drop l.content-index l.contents))
    ≡ listed l.fn.first l.next (part_of l.fn.part (pending_in l.contents))))
