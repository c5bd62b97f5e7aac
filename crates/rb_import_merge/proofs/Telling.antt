-- What events the answers tell of: those that are seen stand for all.
use Rattle.std.proofs.Common.{◌≡◌, ℕ, ◌==◌, ◌&&◌, List, Bool, true, ◌∙◌}
use Rattle.std.specs.Prelude.{Any, Contains}
use Rattle.std.specs.List.{list_any}
use Rattle.std.proofs.lemmas.Bool.{and_parts, eqb-true}
use Rattle.std.proofs.lemmas.Bool.Decides.{same_from_decides}
use Rattle.std.proofs.lemmas.List.Elements.{All-contains}
use Rattle.rb_import_answers.specs.declared.packets.PacketEvent.{PacketEvent}
use Rattle.rb_import_answers.specs.declared.packets.PacketKind.{PacketKind}
use Rattle.rb_import_setup.specs.declared.setup.PathSetup.{PathSetup}
use Rattle.rb_import_check.specs.declared.saved.Saved.{Saved}
use Rattle.rb_import_merge.specs.declared.packets.SeenPacket.{SeenPacket}
use Rattle.rb_import_merge.specs.Committed.{was}
use Rattle.rb_import_merge.specs.LeftOut.{was_timed_out, was_told}
use Rattle.rb_import_merge.specs.Packets.{HaveEvents, HaveEventsOf, StandsFor, counts_as, place_of, some_timed_out, wanted_of}
use Rattle.rb_import_merge.proofs.Among.{any_at, one_passes}
use Rattle.rb_import_merge.proofs.Lowering.{same_place}

-- a test of kind and sequence passes on one of the events if it does on one of those that stand for them
pub told_same : (q : PacketEvent → Bool) → ((e f : PacketEvent) → e.kind ≡ f.kind → e.sequence ≡ f.sequence → q e ≡ q f) → (events : List PacketEvent) (packets : List SeenPacket)
    → HaveEventsOf events packets → list_any (λ (p : SeenPacket). q p.event.now) packets ≡ list_any q events
told_same q same events packets have =
    same_from_decides {P = list_any q events ≡ true} (list_any (λ (p : SeenPacket). q p.event.now) packets) (list_any q events) (there, back) ((λ e. e), (λ e. e))
  where
    there : list_any (λ (p : SeenPacket). q p.event.now) packets ≡ true → list_any q events ≡ true
    there e =
        let (p, among, passes) = one_passes (λ (p : SeenPacket). q p.event.now) packets e in
        any_at q events p.event.now (All-contains (λ (r : SeenPacket). Contains events r.event.now) packets p have.0 among) passes

    back : list_any q events ≡ true → list_any (λ (p : SeenPacket). q p.event.now) packets ≡ true
    back e =
        let (f, among, passes) = one_passes q events e in
        let (j, p, within, at, (kind, sequence, block, sent)) = All-contains (λ g. Any (StandsFor g) packets) events f have.1 among in
        any_at (λ (r : SeenPacket). q r.event.now) packets p (j, within, at) (same p.event.now f kind sequence ∙ passes)

pub was_same : (setup : PathSetup) (saved : List Saved) (packets : List SeenPacket) (kind : PacketKind) (n : ℕ) → HaveEvents setup saved packets
    → was kind n packets ≡ was_told setup saved kind n
was_same setup saved packets kind n have =
    told_same (λ (e : PacketEvent). place_of e.kind == place_of kind && e.sequence == n) (λ e f k s. λ i. place_of (k i) == place_of kind && s i == n) (wanted_of setup saved) packets have

pub timed_out_same : (setup : PathSetup) (saved : List Saved) (packets : List SeenPacket) → HaveEvents setup saved packets → some_timed_out packets ≡ was_timed_out setup saved
timed_out_same setup saved packets have =
    told_same (λ (e : PacketEvent). counts_as e.kind PacketKind.TimedOut) (λ e f k s. λ i. counts_as (k i) PacketKind.TimedOut) (wanted_of setup saved) packets have

-- the event of a packet that the answers tell of
pub told_event : (setup : PathSetup) (saved : List Saved) (kind : PacketKind) (n : ℕ) → was_told setup saved kind n ≡ true
    → (e : PacketEvent) × Contains (wanted_of setup saved) e × (e.kind ≡ kind) × (e.sequence ≡ n)
told_event setup saved kind n told =
    let (e, among, passes) = one_passes (λ (e : PacketEvent). place_of e.kind == place_of kind && e.sequence == n) (wanted_of setup saved) told in
    let parts = and_parts _ _ passes in
    (e, among, same_place e.kind kind (eqb-true _ _ parts.0), eqb-true _ _ parts.1)
