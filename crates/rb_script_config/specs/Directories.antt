-- Objects that are found by their identifiers.
use Rattle.std.specs.Prelude.{◌≡◌, ℕ, List, String}
use Rattle.std.specs.BTreeMap.{BTreeMap, get_by_text}
use Rattle.std.specs.List.{position}
use Rattle.std.specs.Str.{bytes_eq}
use Rattle.std.specs.declared.alloc.Global.{Global}

-- the map gives each of the identifiers its first place, and has no others
abbrev pub IsIndex : List (List ℕ) → BTreeMap (String Global) ℕ → Type 0
IsIndex ids places = (id : List ℕ) → get_by_text places id ≡ position (bytes_eq id) ids
