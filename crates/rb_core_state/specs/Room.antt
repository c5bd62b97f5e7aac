-- What the code holds of clients and paths: what is known of each, and for how much more it has room.
use Rattle.std.specs.Prelude.{◌≡◌, ℕ, ◌+◌, ◌<◌, ◌≤◌, true, false, List, [], length, map, slice_get, IsSomeAnd}
use Rattle.std.specs.List.Sorted.{IsStrictlyIncreasing}
use Rattle.rb_book.specs.Book.{Book}
use Rattle.rb_book.specs.Shared.{Shared}
use Rattle.rb_scan.specs.Owed.{next_sequence}
use Rattle.rb_scan.specs.Packet.{Packet}
use Rattle.rb_scan.specs.declared.path.Order.TheVariants.{Unordered}
use Rattle.rb_scan.specs.Path.{sequences_of, AreFrom}
use Rattle.rb_scan.specs.declared.message.Kind.TheVariants.{Receive}
use Rattle.rb_core_model.specs.Standing.{OpenBatch, ClientState, PathState, max_packets}

-- a client, and for how many more stored heights there is room
pub record ClientWithRoom : Type 0 where
  pub client : ClientState
  pub room : ℕ

-- a path, and for how many more packets there is room
pub record PathWithRoom : Type 0 where
  pub path : PathState
  pub room : ℕ

abbrev pub books_of : List Shared → List Book
books_of books = map (λ (s : Shared). s.book) books

abbrev pub clients_of : List ClientWithRoom → List ClientState
clients_of clients = map (λ (h : ClientWithRoom). h.client) clients

abbrev pub paths_of : List PathWithRoom → List PathState
paths_of paths = map (λ (h : PathWithRoom). h.path) paths

-- the book of a chain stands apart, so that it can be changed
abbrev pub IsApart : List Shared → ℕ → Type 0
IsApart books chain = IsSomeAnd (slice_get books chain) (λ (s : Shared). s.apart ≡ true)

-- there is room for so many more stored heights of a client, or for one more packet of a path
abbrev pub HasStoredRoom : ℕ → List ClientWithRoom → ℕ → Type 0
HasStoredRoom count clients client = IsSomeAnd (slice_get clients client) (λ (h : ClientWithRoom). count ≤ h.room)

-- a client's batch is open, and there is room for the heights of all its updates
abbrev pub HasSettleRoom : List ClientWithRoom → ℕ → Type 0
HasSettleRoom clients client = IsSomeAnd (slice_get clients client) (λ (h : ClientWithRoom). IsSomeAnd h.client.batch (λ (b : OpenBatch). length b.updates ≤ h.room))

abbrev pub HasPacketRoom : List PathWithRoom → ℕ → Type 0
HasPacketRoom paths path = IsSomeAnd (slice_get paths path) (λ (h : PathWithRoom). 0 < h.room)

-- the least sequence from the first on whose packet isn't finished
abbrev pub next_among : ℕ → List Packet → ℕ
next_among first packets = next_sequence (record { order = Unordered; first = first; packets = packets; closed = false; destination = [] }) Receive

abbrev pub next_of : PathState → ℕ
next_of p = next_among p.first p.packets

-- sequences rise from the first on, there are no more packets than may be, and so many sequences from the first on are
-- finished
pub record IsPathWithRoom (p : PathState) (count : ℕ) : Type 0 where
  pub rising : IsStrictlyIncreasing (sequences_of p.packets)
  pub from_first : AreFrom p.first p.packets
  pub few : length p.packets ≤ max_packets
  pub run : p.first + count ≤ next_of p
