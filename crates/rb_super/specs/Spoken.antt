-- What events may not speak of, where some of how things stand was forgotten.
use Rattle.std.specs.Prelude.{◌≡◌, ℕ, ◌+◌, ◌<◌, ◌≤◌, ◌⊎◌, List, Option, Some, None, IfSome, slice_get}
use Rattle.rb_valset.specs.Validator.{Member}
use Rattle.rb_valset.specs.ValidatorSet.{set_hash}
use Rattle.rb_book.specs.Header.{Record, Header}
use Rattle.rb_book.specs.Book.{Book, set_of}
use Rattle.rb_scan.specs.declared.path.Order.TheVariants.{Unordered}
use Rattle.rb_script_types.specs.declared.block.Block.{Block}
use Rattle.rb_core_model.specs.Event.{Event, Window, HostWindow, Asked, SetSeen, HeaderSeen, StoredSeen, Sent, Received, AckWritten, Cleared, Closed, Scanned, Planned, Settled}
use Rattle.rb_core_model.specs.Standing.{PathState, Standing, book_at, tracked, new_packet}
use Rattle.rb_super.specs.Remains.{PacketFits}

-- no set of this hash was forgotten
abbrev pub IsKeptSet : Book → Book → List ℕ → Type 0
IsKeptSet b c hash = set_of b hash ≡ set_of c hash

-- a set is observed again as it was
abbrev pub IsSetAgain : Book → Book → List Member → Type 0
IsSetAgain b c set = set_of c (set_hash set) ≡ None → (set_of b (set_hash set) ≡ None) ⊎ (set_of b (set_hash set) ≡ Some set)

-- the record is not below the height, and names no set that was forgotten
abbrev pub SparesRecord : ℕ → Book → Book → ℕ → Record → Type 0
SparesRecord m b c height r = (m ≤ height) × IsKeptSet b c r.next

abbrev pub SparesHeader : ℕ → Book → Book → Header → Type 0
SparesHeader m b c h = SparesRecord m b c h.height h.record_of × IsKeptSet b c h.set_hash

-- a packet that is sent fits what went on its destination, and on an ORDERED path what went on its source
abbrev pub SparesPacket : (ℕ → ℕ) → Standing → ℕ → ℕ → Block → Option ℕ → Option ℕ → Type 0
SparesPacket m s path sequence block timeout_height timeout_time =
    IfSome (slice_get s.paths path)
    (λ (p : PathState). PacketFits (m p.config.source) (m p.config.destination) (book_at s.books p.config.destination) p.config.order
    (new_packet sequence block timeout_height timeout_time))

abbrev pub SparesAck : (ℕ → ℕ) → Standing → ℕ → Block → Type 0
SparesAck m s path block = IfSome (slice_get s.paths path) (λ (p : PathState). (p.config.order ≡ Unordered) ⊎ (m p.config.destination ≤ block.height + 1))

-- no packet with the sequence was forgotten of the path
abbrev pub SparesSequence : Standing → Standing → ℕ → ℕ → Type 0
SparesSequence s t path sequence = IfSome (slice_get s.paths path) (λ (p : PathState). sequence < p.first) ⊎ IfSome (slice_get t.paths path) (λ (p : PathState). p.first ≤ sequence)

-- the event speaks of nothing that was forgotten: the first is how things would stand, the second how they do
abbrev pub IsSpared : (ℕ → ℕ) → Standing → Standing → Event → Type 0
IsSpared m s t (Window window) = Unit {0}
IsSpared m s t (HostWindow host window) = Unit {0}
IsSpared m s t (Asked client goal) = Unit {0}
IsSpared m s t (SetSeen chain set) = IsSetAgain (book_at s.books chain) (book_at t.books chain) set
IsSpared m s t (HeaderSeen chain header) = SparesHeader (m chain) (book_at s.books chain) (book_at t.books chain) header
IsSpared m s t (StoredSeen client height r) =
    SparesRecord (m (tracked s.clients client)) (book_at s.books (tracked s.clients client)) (book_at t.books (tracked s.clients client)) height r
IsSpared m s t (Sent path sequence block timeout_height timeout_time) =
    SparesPacket m s path sequence block timeout_height timeout_time × SparesSequence s t path sequence
IsSpared m s t (Received path sequence block) = SparesSequence s t path sequence
IsSpared m s t (AckWritten path sequence block) = SparesAck m s path block × SparesSequence s t path sequence
IsSpared m s t (Cleared path sequence) = SparesSequence s t path sequence
IsSpared m s t (Closed path) = Unit {0}
IsSpared m s t (Scanned path scan) = Unit {0}
IsSpared m s t (Planned d) = Unit {0}
IsSpared m s t (Settled client number done) = Unit {0}
