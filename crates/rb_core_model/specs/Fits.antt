-- What a snapshot keeps that a text tells, so that a relayer may begin with it: what every list of events leaves.
use Rattle.std.specs.Prelude.{◌≡◌, ◌⊎◌, ℕ, ◌<◌, ◌≤◌, ◌==◌, Bool, false, List, find, All, AllPairs, Some, IfSome, IsSome, IsSomeAnd, slice_get}
use Rattle.std.specs.List.Sorted.{IsStrictlyIncreasing}
use Rattle.rb_base.specs.Window.{Span}
use Rattle.rb_base.specs.declared.gate.Part.{Part}
use Rattle.rb_base.specs.declared.gate.Part.TheVariants.{Packets, Channel}
use Rattle.rb_book.specs.Book.{Book, record_at}
use Rattle.rb_book.specs.Invariant.{IsBook}
use Rattle.rb_scan.specs.Packet.{Packet}
use Rattle.rb_scan.specs.Path.{sequences_of, AreFrom}
use Rattle.rb_scan.specs.declared.message.Kind.{Kind}
use Rattle.rb_scan.specs.declared.message.Kind.TheVariants.{Receive, Acknowledge, Timeout}
use Rattle.rb_scan.specs.declared.message.PacketMsg.{PacketMsg}
use Rattle.rb_step.specs.LightClient.{Update}
use Rattle.rb_step.specs.View.{AreKnown}
use Rattle.rb_plan_client.specs.Task.{Message}
use Rattle.rb_core_model.specs.Config.{part_for}
use Rattle.rb_core_model.specs.Standing.{OpenBatch, ClientState, PathState, Standing, book_at}

-- ---- a message of an open batch

-- two messages are for different paths, of different kinds, or for different packets
abbrev pub AreApart : Message → Message → Type 0
AreApart m n = (m.path ≡ n.path) × (m.packet.kind ≡ n.packet.kind) × (m.packet.sequence ≡ n.packet.sequence) → ⊥

-- the part of a path that owes a message of this kind, and whether a packet's message of a part was settled
abbrev pub part_of : Kind → Part
part_of Receive = Packets
part_of Acknowledge = Channel
part_of Timeout = Channel

abbrev pub is_settled : Part → Packet → Bool
is_settled Packets q = q.receive_settled
is_settled Channel q = q.outcome_settled

-- its packet is there, and wasn't settled; or it was forgotten
abbrev pub IsOpenOn : PathState → PacketMsg → Type 0
IsOpenOn p m = IsSomeAnd (find (λ (q : Packet). q.sequence == m.sequence) p.packets) (λ (q : Packet). is_settled (part_of m.kind) q ≡ false) ⊎ (m.sequence < p.first)

-- its path is there, and has this client for such messages
abbrev pub FitsMessage : List PathState → ℕ → Message → Type 0
FitsMessage paths client m = IsSomeAnd (slice_get paths m.path) (λ (p : PathState). (part_for p.config client ≡ Some (part_of m.packet.kind)) × IsOpenOn p m.packet)

-- ---- how things stand

-- each update's height has a record, no message stands twice, and each is one for the client
pub record FitsBatch (s : Standing) (client : ℕ) (book : Book) (b : OpenBatch) : Type 0 where
  pub updates : All (λ (u : Update). IsSome (record_at book u.height)) b.updates
  pub apart : AllPairs AreApart b.messages
  pub messages : All (FitsMessage s.paths client) b.messages

-- the stored heights rise, and each has a record
pub record FitsClient (s : Standing) (client : ℕ) (k : ClientState) : Type 0 where
  pub window : IfSome k.window (λ (w : Span). w.from ≤ w.until)
  pub stored : AreKnown (book_at s.books k.config.tracks) k.stored
  pub batch : IfSome k.batch (FitsBatch s client (book_at s.books k.config.tracks))

-- the packets' sequences rise from the first one of the path on
pub record FitsPath (p : PathState) : Type 0 where
  pub rising : IsStrictlyIncreasing (sequences_of p.packets)
  pub from_first : AreFrom p.first p.packets

pub record Fits (s : Standing) : Type 0 where
  pub window : IfSome s.window (λ (w : Span). w.from ≤ w.until)
  pub books : All IsBook s.books
  pub clients : (client : ℕ) → IfSome (slice_get s.clients client) (FitsClient s client)
  pub paths : All FitsPath s.paths
