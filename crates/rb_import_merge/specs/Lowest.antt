-- The order in which the lowest events of each kind and sequence are taken.
use Rattle.std.specs.Prelude.{◌≡◌, List, Any}
use Rattle.std.specs.Ordering.{nat_cmp, ordering_then}
use Rattle.std.specs.declared.cmp.Ordering.{Ordering}
use Rattle.rb_import_answers.specs.declared.packets.PacketKind.{PacketKind}
use Rattle.rb_import_check.specs.declared.error.CheckErrorName.{CheckErrorName}
use Rattle.rb_import_check.specs.declared.error.ImportError.{ImportError}
use Rattle.rb_import_check.specs.Errors.{IsAt, IsBetween, IsTold}
use Rattle.rb_import_merge.specs.declared.packets.SeenPacket.{SeenPacket}
use Rattle.rb_import_merge.specs.Packets.{IsSameSending, place_of}

-- by kind, then by sequence
abbrev pub packet_cmp : SeenPacket → SeenPacket → Ordering
packet_cmp p q = ordering_then (nat_cmp (place_of p.event.now.kind) (place_of q.event.now.kind)) (nat_cmp p.event.now.sequence q.event.now.sequence)

-- and then by block
abbrev pub block_cmp : SeenPacket → SeenPacket → Ordering
block_cmp p q = ordering_then (packet_cmp p q) (nat_cmp p.event.now.block q.event.now.block)

-- by kind, then by block, then by sequence
abbrev pub kind_cmp : SeenPacket → SeenPacket → Ordering
kind_cmp p q =
    ordering_then (ordering_then (nat_cmp (place_of p.event.now.kind) (place_of q.event.now.kind)) (nat_cmp p.event.now.block q.event.now.block))
    (nat_cmp p.event.now.sequence q.event.now.sequence)

-- where two events tell of one sending, they are equal
abbrev pub AreEqualSendings : SeenPacket → SeenPacket → Type 0
AreEqualSendings p q = p.event.now.kind ≡ PacketKind.Sent → q.event.now.kind ≡ PacketKind.Sent → p.event.now.sequence ≡ q.event.now.sequence → IsSameSending q.event.now p.event.now

-- two events tell of one sending, and aren't equal
abbrev pub AreTwoSendings : SeenPacket → SeenPacket → Type 0
AreTwoSendings p q =
    (p.event.now.kind ≡ PacketKind.Sent) × (q.event.now.kind ≡ PacketKind.Sent) × (p.event.now.sequence ≡ q.event.now.sequence)
    × (IsSameSending q.event.now p.event.now → ⊥)

-- so it is, and the error is between their files, and names the sequence
abbrev pub NamesTwo : ImportError → SeenPacket → SeenPacket → Type 0
NamesTwo e p q = AreTwoSendings p q × IsAt p.event.now.sequence e × IsBetween p.file.now q.file.now e

-- the problem is that two of the packets' events tell of one sending, and aren't equal
abbrev pub AreTwoOf : List SeenPacket → ImportError → Type 0
AreTwoOf packets e = IsTold CheckErrorName.TwoAnswers (Any (λ (p : SeenPacket). Any (NamesTwo e p) packets) packets) e
