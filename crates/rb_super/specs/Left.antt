-- (internal) What is left of a light store from a height on.
use Rattle.std.specs.Prelude.{◌≡◌, ℕ, ◌<◌, ◌≤◌, ◌+◌, ◌⊎◌, List, [], ◌++◌, length, All, IfSome, IsSomeAnd, Some, slice_get}
use Rattle.rb_base.specs.Window.{Span}
use Rattle.rb_book.specs.Header.{Record, Header}
use Rattle.rb_book.specs.Book.{Book, RecordAt, height_of, header_height, set_of, record_at}
use Rattle.rb_scan.specs.declared.message.PacketMsg.{PacketMsg}
use Rattle.rb_scan.specs.declared.path.Order.TheVariants.{Unordered}
use Rattle.rb_plan_client.specs.Task.{PathTask}

-- the second list is left of the first: elements whose numbers are below went, and stood in front
pub record IsLeft {X : Type 0} (number : X → ℕ) (m : ℕ) (xs ys : List X) : Type 0 where
  pub gone : List X
  pub parts : xs ≡ gone ++ ys
  pub below : All (λ x. number x < m) gone
  pub above : All (λ x. m ≤ number x) ys

-- Of a light store, records and headers below a height went, and sets. Where a record went, one at the height is left. The sets that are
-- left are those that were there, and what records and headers that are left name is as it was.
pub record IsBookLeft (m : ℕ) (b c : Book) : Type 0 where
  pub limit : c.limit ≡ b.limit
  pub records : IsLeft height_of m b.records c.records
  pub headers : IsLeft header_height m b.headers c.headers
  pub first : (records.gone ≡ []) ⊎ IsSomeAnd (slice_get c.records 0) (λ k. height_of k ≡ m)
  pub sets : (hash : List ℕ) → IfSome (set_of c hash) (λ set. set_of b hash ≡ Some set)
  pub next : All (λ (k : RecordAt). set_of b k.record_of.next ≡ set_of c k.record_of.next) c.records
  pub own : All (λ (h : Header). set_of b h.set_hash ≡ set_of c h.set_hash) c.headers

-- Of the heights that a client has stored, those below went: none of them is live. If there were any, some is left.
pub record AreStoredLeft (m period : ℕ) (w : Span) (b : Book) (xs ys : List ℕ) : Type 0 where
  pub heights : IsLeft (λ h. h) m xs ys
  pub dead : All (λ h. IsSomeAnd (record_at b h) (λ (r : Record). w.until < r.time + period) → ⊥) heights.gone
  pub some : (xs ≡ []) ⊎ (0 < length ys)

-- on an ORDERED path no message's floor is below; on an UNORDERED one that may be
abbrev pub FitsFloor : ℕ → PathTask → Type 0
FitsFloor m p = (p.order ≡ Unordered) ⊎ All (λ (x : PacketMsg). m ≤ x.floor) p.owed

abbrev pub HaveFloors : ℕ → List PathTask → Type 0
HaveFloors m ps = All (FitsFloor m) ps
