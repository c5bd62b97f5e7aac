-- What every event leaves of the paths: their packets rise from their first sequences on, which stay.
use Rattle.std.proofs.Common.{◌≡◌, ℕ, zero, suc, ◌≤◌, Bool, true, false, cond, eqb, ltb, List, [], ◌∷◌, map, set, Option, Some, None, refl, sym, ap, ◌∙◌, subst, arith}
use Rattle.std.specs.List.{slice_get, AllByRecursion}
use Rattle.std.specs.List.Sorted.{IsStrictlyIncreasing}
use Rattle.std.specs.Option.{option_map, option_map_or, option_and_then}
use Rattle.std.proofs.lemmas.Bool.{ltb-false}
use Rattle.std.proofs.lemmas.List.{map-set}
use Rattle.std.proofs.lemmas.Option.{same_Some}
use Rattle.rb_book.specs.Book.{Book}
use Rattle.rb_scan.specs.declared.message.Kind.{Kind}
use Rattle.rb_scan.specs.declared.message.Kind.TheVariants.{Receive, Acknowledge, Timeout}
use Rattle.rb_scan.specs.Packet.{Packet}
use Rattle.rb_scan.specs.Path.{sequences_of}
use Rattle.rb_script_types.specs.declared.config.PathConfig.{PathConfig}
use Rattle.rb_script_types.specs.declared.refusal.Refusal.TheVariants.{OutOfOrder, Repeat}
use Rattle.rb_core_model.specs.Event.{Event, Window, HostWindow, Asked, SetSeen, HeaderSeen, StoredSeen, Sent, Received, AckWritten, Cleared, Closed, Scanned, Planned, Settled}
use Rattle.rb_core_model.specs.Over.{gone_in, rest_of_path}
use Rattle.rb_core_model.specs.Standing.{OpenBatch, PathState, Standing, new_path, view_of_path, judged, changed, changed_at, with_packet, new_packet, marked, with_mark, mark_of, after_settled, after_message, after_messages, open_batch, settled_messages, sent_refusal}
use Rattle.rb_plan_client.specs.Task.{Message}
use Rattle.rb_core_model.proofs.Marks.{all_at}
use Rattle.rb_core_model.proofs.Options.{passes, none_from}
use Rattle.rb_core_model.proofs.Over.{counted_over, rising_later}
use Rattle.rb_core_model.proofs.Rising.{new_rises, all_insert}

-- ---- lists in which one element changes

pub all_set : {X : Type 0} (P : X → Type 0) (xs : List X) (i : ℕ) (x : X) → P x → AllByRecursion P xs → AllByRecursion P (set xs i x)
all_set P [] i x p all = tt
all_set P (y ∷ xs) zero x p all = (p, all.1)
all_set P (y ∷ xs) (suc i) x p all = (all.0, all_set P xs i x p all.1)

pub all_changed : {X : Type 0} (P : X → Type 0) (f : X → X) (xs : List X) (i : ℕ) → ((x : X) → slice_get xs i ≡ Some x → P x → P (f x)) → AllByRecursion P xs → AllByRecursion P (changed_at f xs i)
all_changed {X} P f xs i one all = go (slice_get xs i) refl
  where
    go : (o : Option X) → slice_get xs i ≡ o → AllByRecursion P (option_map_or (λ x. set xs i (f x)) o xs)
    go None e = all
    go (Some x) e = all_set P xs i (f x) (one x e (all_at P xs i x all e)) all

set_same : {X : Type 0} (xs : List X) (i : ℕ) (x : X) → slice_get xs i ≡ Some x → set xs i x ≡ xs
set_same [] i x e = refl
set_same (y ∷ xs) zero x e = ap (λ z. z ∷ xs) (sym (same_Some y x e))
set_same (y ∷ xs) (suc i) x e = ap (λ zs. y ∷ zs) (set_same xs i x e)

pub kept_at : {X Y : Type 0} (g : X → Y) (f : X → X) → ((x : X) → g (f x) ≡ g x) → (xs : List X) (i : ℕ) → map g (changed_at f xs i) ≡ map g xs
kept_at {X} g f same xs i = go (slice_get xs i) refl
  where
    go : (o : Option X) → slice_get xs i ≡ o → map g (option_map_or (λ x. set xs i (f x)) o xs) ≡ map g xs
    go None e = refl
    go (Some x) e = map-set g xs i (f x) ∙ ap (set (map g xs) i) (same x) ∙ sym (map-set g xs i x) ∙ ap (map g) (set_same xs i x e)

-- ---- first sequences

abbrev pub first_of : PathState → ℕ
first_of p = p.first

pub firsts_messages : (ms : List Message) (ps : List PathState) → map first_of (after_messages ps ms) ≡ map first_of ps
firsts_messages [] ps = refl
firsts_messages (m ∷ ms) ps = firsts_messages ms (changed_at (after_message m.packet) ps m.path) ∙ kept_at first_of (after_message m.packet) (λ p. refl) ps m.path

firsts_settled : (s : Standing) (client done : ℕ) (o : Option OpenBatch) → map first_of (after_settled s client done o).paths ≡ map first_of s.paths
firsts_settled s client done None = refl
firsts_settled s client done (Some b) = firsts_messages (settled_messages b done) s.paths

pub firsts_changed : (s : Standing) (e : Event) → map first_of (changed s e).paths ≡ map first_of s.paths
firsts_changed s (Window window) = refl
firsts_changed s (HostWindow host window) = refl
firsts_changed s (Asked client goal) = refl
firsts_changed s (SetSeen chain x) = refl
firsts_changed s (HeaderSeen chain header) = refl
firsts_changed s (StoredSeen client height r) = refl
firsts_changed s (Sent path sequence block timeout_height timeout_time) = kept_at first_of _ (λ p. refl) s.paths path
firsts_changed s (Received path sequence block) = kept_at first_of _ (λ p. refl) s.paths path
firsts_changed s (AckWritten path sequence block) = kept_at first_of _ (λ p. refl) s.paths path
firsts_changed s (Cleared path sequence) = kept_at first_of _ (λ p. refl) s.paths path
firsts_changed s (Closed path) = kept_at first_of _ (λ p. refl) s.paths path
firsts_changed s (Scanned path scan) = refl
firsts_changed s (Planned d) = refl
firsts_changed s (Settled client number done) = firsts_settled s client done (option_and_then (λ c. open_batch c number) (slice_get s.clients client))

-- ---- a path's packets rise, from its first sequence on

pub record IsSoundPath (p : PathState) : Type 0 where
  pub rising : IsStrictlyIncreasing (sequences_of p.packets)
  pub from_first : AllByRecursion (λ (q : Packet). p.first ≤ q.sequence) p.packets

sequences_marked : (f : Packet → Packet) → ((q : Packet) → (f q).sequence ≡ q.sequence) → (n : ℕ) (ps : List Packet) → sequences_of (map (marked f n) ps) ≡ sequences_of ps
sequences_marked f same n [] = refl
sequences_marked f same n (q ∷ ps) = (λ i. one (eqb q.sequence n) i ∷ sequences_marked f same n ps i)
  where
    one : (b : Bool) → (cond b (f q) q).sequence ≡ q.sequence
    one true = same q
    one false = refl

from_marked : (f : Packet → Packet) → ((q : Packet) → (f q).sequence ≡ q.sequence) → (n first : ℕ) (ps : List Packet) → AllByRecursion (λ (q : Packet). first ≤ q.sequence) ps → AllByRecursion (λ (q : Packet). first ≤ q.sequence) (map (marked f n) ps)
from_marked f same n first [] all = tt
from_marked f same n first (q ∷ ps) all = (one (eqb q.sequence n), from_marked f same n first ps all.1)
  where
    one : (b : Bool) → first ≤ (cond b (f q) q).sequence
    one true = subst (λ m. first ≤ m) (sym (same q)) all.0
    one false = all.0

pub mark_sound : (f : Packet → Packet) → ((q : Packet) → (f q).sequence ≡ q.sequence) → (n : ℕ) (p : PathState) → IsSoundPath p → IsSoundPath (with_mark f n p)
mark_sound f same n p is = record { rising = subst IsStrictlyIncreasing (sym (sequences_marked f same n p.packets)) is.rising; from_first = from_marked f same n p.first p.packets is.from_first }

mark_of_same : (kind : Kind) (q : Packet) → (mark_of kind q).sequence ≡ q.sequence
mark_of_same Receive q = refl
mark_of_same Acknowledge q = refl
mark_of_same Timeout q = refl

message_sound : (m : Message) (p : PathState) → IsSoundPath p → IsSoundPath (after_message m.packet p)
message_sound m p is =
    let marked_is = mark_sound (mark_of m.packet.kind) (mark_of_same m.packet.kind) m.packet.sequence p is in
    record { rising = marked_is.rising; from_first = marked_is.from_first }

pub messages_sound : (ms : List Message) (ps : List PathState) → AllByRecursion IsSoundPath ps → AllByRecursion IsSoundPath (after_messages ps ms)
messages_sound [] ps all = all
messages_sound (m ∷ ms) ps all = messages_sound ms (changed_at (after_message m.packet) ps m.path) (all_changed IsSoundPath (after_message m.packet) ps m.path (λ p e is. message_sound m p is) all)

-- a packet that is accepted
pub packet_sound : (books : List Book) (p : PathState) (q : Packet) → sent_refusal (view_of_path books p) q.sequence ≡ None → IsSoundPath p → IsSoundPath (with_packet q p)
packet_sound books p q fits is =
    let one = passes (ltb q.sequence p.first) OutOfOrder _ fits in
    let two = passes _ Repeat _ one.1 in
    record {
      rising = new_rises (λ (x : Packet). x.sequence) p.packets q is.rising (none_from _ two.0);
      from_first = all_insert (λ (x : Packet). p.first ≤ x.sequence) p.packets _ q (ltb-false q.sequence p.first one.0) is.from_first;
    }

-- what is left of it
pub rest_of_sound : (p : PathState) → IsSoundPath p → IsSoundPath (rest_of_path p)
rest_of_sound p is =
    let later = rising_later p.config.order p.first (gone_in p) p.packets (counted_over p.config.order p.first (gone_in p) p.packets (omega arith)) is.rising is.from_first in
    record { rising = later.0; from_first = later.1 }

pub new_sound : (ps : List PathConfig) → AllByRecursion IsSoundPath (map new_path ps)
new_sound [] = tt
new_sound (p ∷ ps) = (record { rising = λ k lt. absurd (omega arith); from_first = tt }, new_sound ps)

-- ---- every event

settled_sound : (s : Standing) (client done : ℕ) (o : Option OpenBatch) → AllByRecursion IsSoundPath s.paths → AllByRecursion IsSoundPath (after_settled s client done o).paths
settled_sound s client done None all = all
settled_sound s client done (Some b) all = messages_sound (settled_messages b done) s.paths all

pub paths_sound : (s : Standing) (e : Event) → judged s e ≡ None → AllByRecursion IsSoundPath s.paths → AllByRecursion IsSoundPath (changed s e).paths
paths_sound s (Window window) ok all = all
paths_sound s (HostWindow host window) ok all = all
paths_sound s (Asked client goal) ok all = all
paths_sound s (SetSeen chain x) ok all = all
paths_sound s (HeaderSeen chain header) ok all = all
paths_sound s (StoredSeen client height r) ok all = all
paths_sound s (Sent path sequence block timeout_height timeout_time) ok all =
    all_changed IsSoundPath (with_packet (new_packet sequence block timeout_height timeout_time)) s.paths path (λ p at is.
    packet_sound s.books p (new_packet sequence block timeout_height timeout_time)
    (ap (λ o. option_and_then (λ v. sent_refusal v sequence) (option_map (view_of_path s.books) o)) (sym at) ∙ ok) is) all
paths_sound s (Received path sequence block) ok all = all_changed IsSoundPath _ s.paths path (λ p at is. mark_sound (λ q. record q { received = Some block }) (λ q. refl) sequence p is) all
paths_sound s (AckWritten path sequence block) ok all = all_changed IsSoundPath _ s.paths path (λ p at is. mark_sound (λ q. record q { written = Some block.height; written_time = block.time }) (λ q. refl) sequence p is) all
paths_sound s (Cleared path sequence) ok all = all_changed IsSoundPath _ s.paths path (λ p at is. mark_sound (λ q. record q { cleared = true }) (λ q. refl) sequence p is) all
paths_sound s (Closed path) ok all = all_changed IsSoundPath _ s.paths path (λ p at is. record { rising = is.rising; from_first = is.from_first }) all
paths_sound s (Scanned path scan) ok all = all
paths_sound s (Planned d) ok all = all
paths_sound s (Settled client number done) ok all = settled_sound s client done (option_and_then (λ c. open_batch c number) (slice_get s.clients client)) all
