-- The least of the heights that are needed.
use Rattle.std.specs.Prelude.{ℕ, List, fold, Option, Some, None, slice_index_or}
use Rattle.std.specs.Option.{option_map_or}
use Rattle.rb_base.specs.Window.{Span}
use Rattle.rb_book.specs.Shared.{Shared}
use Rattle.rb_core_model.specs.Standing.{Standing}
use Rattle.rb_core_state.specs.Room.{ClientWithRoom, PathWithRoom, books_of, clients_of, paths_of}
use Rattle.rb_scan.specs.Expiry.{lesser}

-- the least of heights and of one more, where there is any
abbrev pub lowered : Option ℕ → List ℕ → Option ℕ
lowered o ns = fold (λ (o : Option ℕ) (n : ℕ). lesser o (Some n)) o ns

-- how things stand in a window
abbrev pub standing_at : Span → List Shared → List ClientWithRoom → List PathWithRoom → Standing
standing_at window books clients paths = record { window = Some window; books = books_of books; clients = clients_of clients; paths = paths_of paths }

-- the floor of a chain, if there is one, or 0
abbrev pub floor_or_none : Option ℕ → ℕ
floor_or_none floor = option_map_or (λ (n : ℕ). n) floor 0

-- the floor of a chain among the floors of all; 0 where it has none: nothing is below
abbrev pub floor_in : List (Option ℕ) → ℕ → ℕ
floor_in floors chain = floor_or_none (slice_index_or floors chain None)
