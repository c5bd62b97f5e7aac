-- That packets with a commitment were sent, and received where they have to be (ICS 4: a commitment is stored as a packet is sent; a packet that
-- was received, and isn't acknowledged yet, has it still).
use Rattle.std.specs.Prelude.{◌≡◌, ℕ, ◌≤◌, ◌==◌, Bool, true, false, ◌&&◌, List, Option, None, All, Any}
use Rattle.std.specs.List.{list_any}
use Rattle.rb_import_answers.specs.declared.packets.PacketKind.{PacketKind}
use Rattle.rb_import_setup.specs.declared.setup.PathSetup.{PathSetup}
use Rattle.rb_import_check.specs.declared.error.CheckErrorName.{CheckErrorName}
use Rattle.rb_import_check.specs.declared.error.ImportError.{ImportError}
use Rattle.rb_import_check.specs.declared.error.ImportError.TheVariants as errors
use Rattle.rb_import_check.specs.declared.saved.Saved.{Saved}
use Rattle.rb_import_merge.specs.declared.packets.SeenPacket.{SeenPacket}
use Rattle.rb_import_merge.specs.declared.surplus.Surplus.{Surplus}
use Rattle.rb_import_merge.specs.LeftOut.{takes}
use Rattle.rb_import_merge.specs.Packets.{place_of}
use Rattle.rb_import_merge.specs.Pending.{committed_in, is_unreceived, lack_last_page}

-- ---- accepted

-- whether among the packets there is an event of this kind with this sequence
abbrev pub was : PacketKind → ℕ → List SeenPacket → Bool
was kind n packets = list_any (λ (p : SeenPacket). place_of p.event.now.kind == place_of kind && p.event.now.sequence == n) packets

-- among the packets there is an event of this kind with this sequence
abbrev pub WasSeen : List SeenPacket → PacketKind → ℕ → Type 0
WasSeen packets kind n = Any (λ (p : SeenPacket). (p.event.now.kind ≡ kind) × (p.event.now.sequence ≡ n)) packets

-- the packet of this sequence, unless that is below the path's first one or it isn't taken, was sent; and it was received, unless it may not have been
abbrev pub HasEvents : PathSetup → List Saved → Option Surplus → List SeenPacket → ℕ → Type 0
HasEvents setup saved surplus packets n =
    setup.config.first ≤ n → takes setup saved surplus n ≡ true
    → (WasSeen packets PacketKind.Sent n × (is_unreceived saved n ≡ false → WasSeen packets PacketKind.Received n))

-- no page of commitments is missing at their end, and each packet with a commitment that is taken has its events
abbrev pub HaveCommitted : PathSetup → List Saved → Option Surplus → List SeenPacket → Type 0
HaveCommitted setup saved surplus packets =
    (lack_last_page saved ≡ false) × All (λ (s : Saved). All (HasEvents setup saved surplus packets) (committed_in s.answer)) saved

-- ---- refused

-- the problem is that the last page of commitments isn't there
abbrev pub IsOfLastPage : List Saved → ImportError → Type 0
IsOfLastPage saved (errors.CheckError p) =
    (lack_last_page saved ≡ true) × (p.name ≡ CheckErrorName.MissingCommitments) × (p.number ≡ None) × (p.file ≡ None) × (p.other ≡ None)
IsOfLastPage saved errors.NoMemory = ⊥
