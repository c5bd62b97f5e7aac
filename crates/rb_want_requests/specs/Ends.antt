-- Why no more is asked for paths, each reason once.
use Rattle.std.specs.Prelude.{◌≡◌, ℕ, Bool, false, ◌&&◌, List, [], ◌∷◌, ◌++◌, codes, if◌then◌else◌}
use Rattle.std.specs.List.{AllPairs, list_any}
use Rattle.std.specs.Str.{bytes_eq}
use Rattle.rb_want_requests.specs.declared.reason.PathEnd.{PathEnd}

-- the line that says it
abbrev pub end_line : PathEnd → List ℕ
end_line e = codes "end " ++ e.path ++ codes ": the gateway of " ++ e.chain ++ codes " doesn't give which of its packets are pending"

-- whether two are of one path and one gateway, so that one line says both
abbrev pub is_same_end : PathEnd → PathEnd → Bool
is_same_end e f = bytes_eq e.path f.path && bytes_eq e.chain f.chain

-- no two are the same
abbrev pub AreDistinctEnds : List PathEnd → Type 0
AreDistinctEnds ends = AllPairs (λ earlier later. is_same_end later earlier ≡ false) ends

-- these, and one more at the end unless it is one of them
abbrev pub with_end : List PathEnd → PathEnd → List PathEnd
with_end ends e = if list_any (is_same_end e) ends then ends else ends ++ e ∷ []
