-- Paths are compared by their content.
use Rattle.std.specs.Prelude.{◌≡◌, ℕ, ◌==◌, ◌&&◌, Bool, true, false, Option, Some, None, refl}
use Rattle.std.proofs.Common.{ap, nat_eq}
use Rattle.std.specs.Bool.{Decides, beq}
use Rattle.std.specs.Option.{option_eq}
use Rattle.std.specs.Cmp.{IsPartialEquivalence, IsEquivalence, decided, partial_equiv_from_equiv, booleans_Decides, unsigned_Decides}
use Rattle.std.specs.Cmp.Lexicographic.{pointwise}
use Rattle.std.proofs.lemmas.Bool.Decides.{Decides-and, Decides-like}
use Rattle.std.proofs.lemmas.Slice.Eq.{slice_eq-Decides}
use Rattle.rb_scan.specs.Packet.{Packet}
use Rattle.rb_scan.specs.Path.{Path}
use Rattle.rb_scan.specs.Orders.{same_order}
use Rattle.rb_scan.specs.declared.path.Order.{Order}
use Rattle.rb_scan.specs.declared.path.Order.TheVariants.{Ordered, Unordered}

-- two packets were sent alike, and the same came of them
abbrev pub same_sending : Packet → Packet → Bool
same_sending p q =
    (p.sequence == q.sequence) && (p.sent == q.sent) && option_eq nat_eq p.sent_time q.sent_time && option_eq nat_eq p.timeout_height q.timeout_height
    && option_eq nat_eq p.timeout_time q.timeout_time

abbrev pub same_fate : Packet → Packet → Bool
same_fate p q =
    option_eq nat_eq p.received q.received && option_eq nat_eq p.written q.written && option_eq nat_eq p.written_time q.written_time && beq p.cleared q.cleared
    && beq p.receive_settled q.receive_settled && beq p.outcome_settled q.outcome_settled

abbrev pub same_packet : Packet → Packet → Bool
same_packet p q = same_sending p q && same_fate p q

abbrev pub same_record : ℕ × ℕ → ℕ × ℕ → Bool
same_record r s = (r.0 == s.0) && (r.1 == s.1)

abbrev pub same_path : Path → Path → Bool
same_path path other =
    (same_order path.order other.order && (path.first == other.first) && beq path.closed other.closed)
    && pointwise same_packet path.packets other.packets && pointwise same_record path.destination other.destination

-- ---- each of them decides equality
pub options_Decides : {X : Type 0} (e : X → X → Bool) → ((x y : X) → Decides (e x y) (x ≡ y)) → (o p : Option X) → Decides (option_eq e o p) (o ≡ p)
options_Decides e law None None = (λ _. refl, λ _. refl)
options_Decides e law None (Some y) = (λ h. cc, λ h. cc)
options_Decides e law (Some x) None = (λ h. cc, λ h. cc)
options_Decides e law (Some x) (Some y) = Decides-like _ (λ h. ap Some h) (λ h. cc) (law x y)

pub orders_Decides : (o p : Order) → Decides (same_order o p) (o ≡ p)
orders_Decides Ordered Ordered = (λ _. refl, λ _. refl)
orders_Decides Ordered Unordered = (λ e. cc, λ e. cc)
orders_Decides Unordered Ordered = (λ e. cc, λ e. cc)
orders_Decides Unordered Unordered = (λ _. refl, λ _. refl)

pub same_packet-Decides : (p q : Packet) → Decides (same_packet p q) (p ≡ q)
same_packet-Decides p q =
    Decides-like _
    (λ h i. record {
      sequence = h.0.0.0.0.0 i;
      sent = h.0.0.0.0.1 i;
      sent_time = h.0.0.0.1 i;
      timeout_height = h.0.0.1 i;
      timeout_time = h.0.1 i;
      received = h.1.0.0.0.0.0 i;
      written = h.1.0.0.0.0.1 i;
      written_time = h.1.0.0.0.1 i;
      cleared = h.1.0.0.1 i;
      receive_settled = h.1.0.1 i;
      outcome_settled = h.1.1 i;
    })
    (λ e. (
      ((((ap (λ (x : Packet). x.sequence) e, ap (λ (x : Packet). x.sent) e), ap (λ (x : Packet). x.sent_time) e), ap (λ (x : Packet). x.timeout_height) e), ap (λ (x : Packet). x.timeout_time) e),
      (((((ap (λ (x : Packet). x.received) e, ap (λ (x : Packet). x.written) e), ap (λ (x : Packet). x.written_time) e), ap (λ (x : Packet). x.cleared) e), ap (λ (x : Packet). x.receive_settled) e), ap (λ (x : Packet). x.outcome_settled) e),
    ))
    (Decides-and _ _
    (Decides-and _ _ (Decides-and _ _ (Decides-and _ _ (Decides-and _ _ (unsigned_Decides p.sequence q.sequence) (unsigned_Decides p.sent q.sent)) (options_Decides nat_eq unsigned_Decides p.sent_time q.sent_time)) (options_Decides nat_eq unsigned_Decides p.timeout_height q.timeout_height)) (options_Decides nat_eq unsigned_Decides p.timeout_time q.timeout_time))
    (Decides-and _ _ (Decides-and _ _ (Decides-and _ _ (Decides-and _ _ (Decides-and _ _ (options_Decides nat_eq unsigned_Decides p.received q.received) (options_Decides nat_eq unsigned_Decides p.written q.written)) (options_Decides nat_eq unsigned_Decides p.written_time q.written_time)) (booleans_Decides p.cleared q.cleared)) (booleans_Decides p.receive_settled q.receive_settled)) (booleans_Decides p.outcome_settled q.outcome_settled)))

same_record-Decides : (r s : ℕ × ℕ) → Decides (same_record r s) (r ≡ s)
same_record-Decides r s =
    Decides-like _ (λ h i. (h.0 i, h.1 i)) (λ e. (ap (λ (x : ℕ × ℕ). x.0) e, ap (λ (x : ℕ × ℕ). x.1) e))
    (Decides-and _ _ (unsigned_Decides r.0 s.0) (unsigned_Decides r.1 s.1))

pub same_path-Decides : (path other : Path) → Decides (same_path path other) (path ≡ other)
same_path-Decides path other =
    Decides-like _
    (λ h i. record { order = h.0.0.0.0 i; first = h.0.0.0.1 i; packets = h.0.1 i; closed = h.0.0.1 i; destination = h.1 i })
    (λ e. ((((ap (λ (x : Path). x.order) e, ap (λ (x : Path). x.first) e), ap (λ (x : Path). x.closed) e), ap (λ (x : Path). x.packets) e), ap (λ (x : Path). x.destination) e))
    (Decides-and _ _
    (Decides-and _ _
    (Decides-and _ _ (Decides-and _ _ (orders_Decides path.order other.order) (unsigned_Decides path.first other.first)) (booleans_Decides path.closed other.closed))
    (slice_eq-Decides same_packet-Decides path.packets other.packets _ refl))
    (slice_eq-Decides same_record-Decides path.destination other.destination _ refl))

pub same_packet-equiv : IsEquivalence same_packet
same_packet-equiv = decided same_packet same_packet-Decides

pub same_path-equiv : IsEquivalence same_path
same_path-equiv = decided same_path same_path-Decides

pub same_packet-laws : IsPartialEquivalence same_packet
same_packet-laws = partial_equiv_from_equiv same_packet-equiv

pub same_path-laws : IsPartialEquivalence same_path
same_path-laws = partial_equiv_from_equiv same_path-equiv
