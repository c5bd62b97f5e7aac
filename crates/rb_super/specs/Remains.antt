-- (internal) What is left of how things stand, where light stores forgot what is below a height of each chain, and paths what was over.
use Rattle.std.specs.Prelude.{◌≡◌, ℕ, ◌+◌, ◌<◌, ◌≤◌, ◌⊎◌, true, false, List, length, All, Some, IfSome, slice_get}
use Rattle.std.specs.List.{AllZip}
use Rattle.rb_base.specs.Window.{Span}
use Rattle.rb_book.specs.Book.{Book, RecordAt, height_of, time_of}
use Rattle.rb_book.specs.Invariant.{IsBook, Rises}
use Rattle.rb_scan.specs.Packet.{Packet, is_cleared, is_in_flight}
use Rattle.rb_scan.specs.declared.path.Order.{Order}
use Rattle.rb_scan.specs.declared.path.Order.TheVariants.{Unordered}
use Rattle.rb_step.specs.LightClient.{Update}
use Rattle.rb_base.specs.declared.gate.Part.TheVariants.{Packets, Channel}
use Rattle.rb_core_model.specs.Config.{part_for}
use Rattle.rb_core_model.specs.Over.{over_in, from_later}
use Rattle.rb_core_model.specs.Standing.{OpenBatch, ClientState, PathState, Standing, book_at, window_for}
use Rattle.rb_super.specs.Left.{IsBookLeft, AreStoredLeft}

-- ---- what a path needs

-- all that went below a height is earlier than a moment
abbrev pub IsAfterGone : ℕ → Book → ℕ → Type 0
IsAfterGone m b moment = All (λ (k : RecordAt). height_of k < m → time_of k < moment) b.records

-- A packet that is in flight times out after all that went on its destination. On an ORDERED path nothing went that is at or above the floor of a
-- message that it may come to be owed.
pub record PacketFits (source destination : ℕ) (b : Book) (order : Order) (q : Packet) : Type 0 where
  pub times_out : (is_in_flight q ≡ false) ⊎ IfSome q.timeout_time (IsAfterGone destination b)
  pub receive : (order ≡ Unordered) ⊎ ((is_in_flight q ≡ false) ⊎ (source ≤ q.sent + 1))
  pub timeout : (order ≡ Unordered) ⊎ ((is_in_flight q ≡ false) ⊎ IfSome q.timeout_height (λ h. destination ≤ h))
  pub written : (order ≡ Unordered) ⊎ ((is_cleared q ≡ true) ⊎ IfSome q.written (λ block. destination ≤ block + 1))

-- a closed path needs nothing
abbrev pub PathFits : (ℕ → ℕ) → List Book → PathState → Type 0
PathFits m books p =
    (p.closed ≡ true) ⊎ All (PacketFits (m p.config.source) (m p.config.destination) (book_at books p.config.destination) p.config.order) p.packets

-- ---- what is left of a client

-- this being the common window
pub record IsClientLeft (m : ℕ → ℕ) (w : Span) (books : List Book) (c d : ClientState) : Type 0 where
  pub is : d ≡ record c { stored = d.stored }
  pub stored : AreStoredLeft (m c.config.tracks) c.config.options.period (window_for w c) (book_at books c.config.tracks) c.stored d.stored
  pub batch : IfSome c.batch (λ (b : OpenBatch). All (λ (u : Update). m c.config.tracks ≤ u.height) b.updates)

-- ---- of a path

-- so many packets at its front, which are over, went: it goes on from a later sequence
pub record IsPathLeft (p q : PathState) : Type 0 where
  pub went : ℕ
  pub over : went ≤ over_in p
  pub is : q ≡ from_later went p

-- ---- of how things stand

pub record IsLeftOf (m : ℕ → ℕ) (s t : Standing) : Type 0 where
  pub window : Span
  pub in_force : s.window ≡ Some window
  pub still : t.window ≡ Some window
  pub paths : AllZip IsPathLeft s.paths t.paths
  pub chains : length t.books ≡ length s.books
  pub books : (chain : ℕ) → IsBookLeft (m chain) (book_at s.books chain) (book_at t.books chain)
  pub rises : (chain : ℕ) → Rises (book_at s.books chain).records
  pub rest : (chain : ℕ) → IsBook (book_at t.books chain)
  pub clients : AllZip (IsClientLeft m window s.books) s.clients t.clients
  pub fit : All (PathFits m s.books) s.paths

-- ---- how clients and paths go together

-- a client of a path tracks the chain on which the path's messages for it are proved
abbrev pub AreRouted : Standing → Type 0
AreRouted s =
    (client path : ℕ) (c : ClientState) (p : PathState) → slice_get s.clients client ≡ Some c → slice_get s.paths path ≡ Some p
    → (part_for p.config client ≡ Some Packets → c.config.tracks ≡ p.config.source)
    × (part_for p.config client ≡ Some Channel → c.config.tracks ≡ p.config.destination)
