-- The step tables that are kept of a relayer's chains, and what events add to them.
use Rattle.std.specs.Prelude.{◌≡◌, ℕ, List, length, Option, Some, None, IfSome, slice_get}
use Rattle.std.specs.Option.{option_map}
use Rattle.rb_book.specs.Book.{Book}
use Rattle.rb_book.specs.Intake.{after_set, after_header, after_record}
use Rattle.rb_script_types.specs.Config.{Config}
use Rattle.rb_script_types.specs.declared.config.ClientConfig.{ClientConfig}
use Rattle.rb_core.specs.Core.{Core}
use Rattle.rb_core_model.specs.Event.{Event, SetSeen, HeaderSeen, StoredSeen}
use Rattle.rb_core_model.specs.Standing.{book_at}
use Rattle.rb_super_turn.specs.Phases.{standing_in}

-- the chain whose book an event adds to, if it adds to one
abbrev pub chain_of : Config → Event → Option ℕ
chain_of c (SetSeen chain set) = Some chain
chain_of c (HeaderSeen chain header) = Some chain
chain_of c (StoredSeen client height r) = option_map (λ (k : ClientConfig). k.tracks) (slice_get c.clients client)
chain_of c _ = None

-- a book with what an event adds to it
abbrev pub with_addition : Event → Book → Book
with_addition (SetSeen chain set) b = after_set b set
with_addition (HeaderSeen chain header) b = after_header b header
with_addition (StoredSeen client height r) b = after_record b height r
with_addition _ b = b

-- the table, if there is one, is of this book
abbrev pub IsTableOf : Book → Option Book → Type 0
IsTableOf book table = IfSome table (λ other. other ≡ book)

-- there is a place for each chain, and a table that is there is of its chain's book as it stands
pub record AreTables (core : Core) (tables : List (Option Book)) : Type 0 where
  pub places : length tables ≡ length core.config.chains
  pub right : (chain : ℕ) → IfSome (slice_get tables chain) (IsTableOf (book_at (standing_in core).books chain))
