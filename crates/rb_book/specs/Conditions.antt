-- When a book gives each of its refusals, in each condition's own words: no earlier one applies (own choice: the
-- conditions and their order).
use Rattle.std.specs.Prelude.{◌≡◌, ◌≢◌, ◌↔◌, ℕ, ◌<◌, ◌≤◌, ◌⊎◌, List, ◌∷◌, length, slice_get, Option, Some, None, All, IsSomeAnd}
use Rattle.rb_valset.specs.Validator.{Member}
use Rattle.rb_valset.specs.ValidatorSet.{set_hash}
use Rattle.rb_book.specs.declared.error.BookError.{BookError}
use Rattle.rb_book.specs.declared.error.BookError.TheVariants.{UnknownSet, WrongVerdictCount, BadVote, Conflict, TimeOrder, Full, HashClash, NoMemory}
use Rattle.rb_book.specs.declared.vote.Vote.{Vote}
use Rattle.rb_book.specs.declared.vote.Vote.TheVariants.{Bad}
use Rattle.rb_book.specs.Header.{Record, Header}
use Rattle.rb_book.specs.Book.{Book, height_of, time_of, set_of, record_at, header_at, address_count, max_sets, max_addresses}
use Rattle.rb_book.specs.Invariant.{IsBook}
use Rattle.rb_book.specs.Intake.{set_refusal, record_refusal, header_refusal}
use Rattle.rb_book.specs.Laws.{FitsAt, SetFits, IsWellSigned}

-- lower records are earlier, and higher ones later
pub record IsInOrder (b : Book) (height time : ℕ) : Type 0 where
  pub below : All (λ k. height_of k < height → time_of k < time) b.records
  pub above : All (λ k. height < height_of k → time < time_of k) b.records

-- the record at a height is lower and not earlier, and those between are earlier
pub record BreaksBelow (b : Book) (height time nearest : ℕ) : Type 0 where
  pub lower : nearest < height
  pub late : IsSomeAnd (record_at b nearest) (λ r. time ≤ r.time)
  pub between : All (λ k. nearest < height_of k → height_of k < height → time_of k < time) b.records

-- all lower records are earlier; the record at a height is higher and not later, and those between are later
pub record BreaksAbove (b : Book) (height time nearest : ℕ) : Type 0 where
  pub below : All (λ k. height_of k < height → time_of k < time) b.records
  pub higher : height < nearest
  pub early : IsSomeAnd (record_at b nearest) (λ r. r.time ≤ time)
  pub between : All (λ k. height < height_of k → height_of k < nearest → time < time_of k) b.records

-- the height that breaks the order of times for a record of this time at this height: the nearest one that does, a lower
-- one before a higher one
abbrev pub IsBreaker : Book → ℕ → ℕ → ℕ → Type 0
IsBreaker b height time nearest = BreaksBelow b height time nearest ⊎ BreaksAbove b height time nearest

-- the first bad vote
pub record IsFirstBad (votes : List Vote) (index : ℕ) : Type 0 where
  pub bad : slice_get votes index ≡ Some Bad
  pub first : (k : ℕ) → k < index → slice_get votes k ≢ Some Bad

-- what is answered to a set
abbrev pub SetAnswer : Option BookError → Book → List Member → Type 0
-- it is known already, or its hash is new and it fits
SetAnswer None b set = (set_of b (set_hash set) ≡ Some set) ⊎ ((set_of b (set_hash set) ≡ None) × SetFits b set)
-- another known set has its hash
SetAnswer (Some HashClash) b set = IsSomeAnd (set_of b (set_hash set)) (λ known. known ≢ set)
-- its hash is new, and there is no room for it, or none for its addresses
SetAnswer (Some Full) b set =
    (set_of b (set_hash set) ≡ None)
    × ((max_sets ≤ length b.sets) ⊎ (max_addresses < address_count (set ∷ b.sets)))
SetAnswer (Some UnknownSet) b set = ⊥
SetAnswer (Some WrongVerdictCount) b set = ⊥
SetAnswer (Some (BadVote index)) b set = ⊥
SetAnswer (Some (Conflict q)) b set = ⊥
SetAnswer (Some (TimeOrder q)) b set = ⊥
SetAnswer (Some NoMemory) b set = ⊥

-- what is answered to a record
abbrev pub RecordAnswer : Option BookError → Book → ℕ → Record → Type 0
-- it is known already, or its height is new and it fits there
RecordAnswer None b height r = (record_at b height ≡ Some r) ⊎ ((record_at b height ≡ None) × FitsAt b height r)
-- its height has another record
RecordAnswer (Some (Conflict q)) b height r = (q ≡ height) × IsSomeAnd (record_at b height) (λ known. known ≢ r)
-- its height is new, and its time out of order
RecordAnswer (Some (TimeOrder q)) b height r = (record_at b height ≡ None) × IsBreaker b height r.time q
-- its height is new, its time in order, and there is no room for it
RecordAnswer (Some Full) b height r = (record_at b height ≡ None) × IsInOrder b height r.time × (b.limit ≤ length b.records)
RecordAnswer (Some UnknownSet) b height r = ⊥
RecordAnswer (Some WrongVerdictCount) b height r = ⊥
RecordAnswer (Some (BadVote index)) b height r = ⊥
RecordAnswer (Some HashClash) b height r = ⊥
RecordAnswer (Some NoMemory) b height r = ⊥

-- the header's height is new, and so much is answered to its record
abbrev pub IsAsItsRecord : Option BookError → Book → Header → Type 0
IsAsItsRecord answer b h = (header_at b h.height ≡ None) × RecordAnswer answer b h.height h.record_of

-- what is answered to a header
abbrev pub HeaderAnswer : Option BookError → Book → Header → Type 0
-- its own set is not known
HeaderAnswer (Some UnknownSet) b h = set_of b h.set_hash ≡ None
-- its own set has another number of members than there are votes
HeaderAnswer (Some WrongVerdictCount) b h = IsSomeAnd (set_of b h.set_hash) (λ own. length h.votes ≢ length own)
-- its own set has as many members, and a vote is bad
HeaderAnswer (Some (BadVote index)) b h =
    IsSomeAnd (set_of b h.set_hash) (λ own. length h.votes ≡ length own) × IsFirstBad h.votes index
-- it is signed as it must be; its height has another header, or no header and another record
HeaderAnswer (Some (Conflict q)) b h =
    IsWellSigned b h
    × (((q ≡ h.height) × IsSomeAnd (header_at b h.height) (λ known. known ≢ h)) ⊎ IsAsItsRecord (Some (Conflict q)) b h)
-- it is signed as it must be, its height has no header, and its record is refused
HeaderAnswer (Some (TimeOrder q)) b h = IsWellSigned b h × IsAsItsRecord (Some (TimeOrder q)) b h
HeaderAnswer (Some Full) b h = IsWellSigned b h × IsAsItsRecord (Some Full) b h
-- it is signed as it must be, and known already, or its height has no header and its record isn't refused
HeaderAnswer None b h = IsWellSigned b h × ((header_at b h.height ≡ Some h) ⊎ IsAsItsRecord None b h)
HeaderAnswer (Some HashClash) b h = ⊥
HeaderAnswer (Some NoMemory) b h = ⊥

-- a book answers exactly what its condition holds of
abbrev pub RefusalIsByConditions : Type 0
RefusalIsByConditions = (b : Book) → IsBook b →
    ((set : List Member) (answer : Option BookError) → (set_refusal b set ≡ answer) ↔ SetAnswer answer b set)
    × ((height : ℕ) (r : Record) (answer : Option BookError) → (record_refusal b height r ≡ answer) ↔ RecordAnswer answer b height r)
    × ((h : Header) (answer : Option BookError) → (header_refusal b h ≡ answer) ↔ HeaderAnswer answer b h)
