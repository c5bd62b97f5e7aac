-- a path, which is one direction of a channel (ICS 4), as it was observed
use Rattle.std.specs.Prelude.{ℕ, ◌≤◌, Bool, List, map}
use Rattle.std.specs.List.{All}
use Rattle.std.specs.List.Sorted.{IsStrictlyIncreasing}
use Rattle.rb_scan.specs.Packet.{Packet}
use Rattle.rb_scan.specs.declared.path.Order.{Order}

-- its order, its first sequence (all lower ones are finished and cleared), the packets sent, whether it is closed, and the heights and
-- times of the destination's known records
pub record Path : Type 0 where
  pub order : Order
  pub first : ℕ
  pub packets : List Packet
  pub closed : Bool
  pub destination : List (ℕ × ℕ)

abbrev pub sequences_of : List Packet → List ℕ
sequences_of packets = map (λ (p : Packet). p.sequence) packets

-- all packets have at least this sequence
abbrev pub AreFrom : ℕ → List Packet → Type 0
AreFrom first packets = All (λ (p : Packet). first ≤ p.sequence) packets

-- the heights and the times of records
abbrev pub heights_of : List (ℕ × ℕ) → List ℕ
heights_of records = map (λ (r : ℕ × ℕ). r.0) records

abbrev pub times_of : List (ℕ × ℕ) → List ℕ
times_of records = map (λ (r : ℕ × ℕ). r.1) records

-- sequences rise strictly from `first` on, and heights and times of the destination rise strictly
pub record IsPath (path : Path) : Type 0 where
  pub sequences : IsStrictlyIncreasing (sequences_of path.packets)
  pub from_first : AreFrom path.first path.packets
  pub heights : IsStrictlyIncreasing (heights_of path.destination)
  pub times : IsStrictlyIncreasing (times_of path.destination)
