-- A document as it came (own choice), for a turn whose script is more than a script may be.
use Rattle.std.specs.Prelude.{ℕ, ◌==◌, Bool, true, false, List, [], ◌∷◌, ◌++◌, if◌then◌else◌}

-- the byte `|`, which the line that ends a part doesn't begin with, nor a line of TOML
abbrev pub bar : ℕ
bar = 124

-- a bar behind each line feed
abbrev pub barred : List ℕ → List ℕ
barred [] = []
barred (b ∷ bs) = if b == 10 then b ∷ bar ∷ barred bs else b ∷ barred bs

-- without the byte behind each line feed, and without the first byte where it stands behind one
abbrev pub unbarred : Bool → List ℕ → List ℕ
unbarred behind_feed [] = []
unbarred true (b ∷ bs) = unbarred false bs
unbarred false (b ∷ bs) = b ∷ unbarred (b == 10) bs

-- the lines of a document, each behind a bar
abbrev pub verbatim : List ℕ → List ℕ
verbatim bytes = bar ∷ (barred bytes ++ 10 ∷ [])
