-- When an address gets no column.
use Rattle.std.specs.Prelude.{◌≡◌, ℕ, false, List, length}
use Rattle.std.specs.List.{list_any}
use Rattle.std.specs.Str.{bytes_eq}
use Rattle.rb_lanes.specs.Lanes.{max_columns}

-- there are as many columns as there may be, and the address has none of them (own choice)
abbrev pub IsFull : List (List ℕ) → List ℕ → Type 0
IsFull known address = (length known ≡ max_columns) × (list_any (bytes_eq address) known ≡ false)
