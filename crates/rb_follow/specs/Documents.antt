-- The documents of an input: each ends by a line `---`, which isn't a part of it.
use Rattle.std.specs.Prelude.{◌≡◌, ℕ, ◌<◌, ◌≤◌, ◌==◌, ◌||◌, Bool, false, List, [], ◌∷◌, ◌++◌, codes, drop, length, Option, Some, None, if◌then◌else◌}
use Rattle.std.specs.Str.{bytes_eq}

-- the line that ends a document: three dashes, and LF, or CR and LF
abbrev pub is_mark : List ℕ → Bool
is_mark line = bytes_eq line (codes "---" ++ 10 ∷ []) || bytes_eq line (codes "---" ++ 13 ∷ 10 ∷ [])

-- what was read of a document: its whole lines, and what there is of the last one
pub record Gathered : Type 0 where
  pub whole : List ℕ
  pub line : List ℕ

abbrev pub nothing_read : Gathered
nothing_read = record { whole = []; line = [] }

abbrev pub all_read : Gathered → List ℕ
all_read g = g.whole ++ g.line

-- whether a byte ends the document: it ends a line `---`
abbrev pub is_end : Gathered → ℕ → Bool
is_end g byte = if byte == 10 then is_mark (g.line ++ byte ∷ []) else false

-- what is read after a byte that doesn't end the document
abbrev pub gathered_after : Gathered → ℕ → Gathered
gathered_after g byte =
    if byte == 10 then record { whole = g.whole ++ g.line ++ byte ∷ []; line = [] } else record { whole = g.whole; line = g.line ++ byte ∷ [] }

-- a document of an input: all of it, or the beginning of one, within which the input ends
pub data Document : Type 0 where
  document : List ℕ → Document
  cut : Document

-- the documents that end in these bytes, and what is read of the next then
abbrev pub documents_from : Gathered → List ℕ → List Document
documents_from g [] = []
documents_from g (b ∷ bs) =
    if is_end g b then document g.whole ∷ documents_from nothing_read bs else documents_from (gathered_after g b) bs

abbrev pub left_from : Gathered → List ℕ → Gathered
left_from g [] = g
left_from g (b ∷ bs) = if is_end g b then left_from nothing_read bs else left_from (gathered_after g b) bs

-- what was read of a document that a piece goes on with, whatever comes behind the piece: the document doesn't end in it, or it ends
-- by as many bytes of the piece, and all of it was read
abbrev pub IsGathered : Gathered → List ℕ → Option ℕ → Gathered → Type 0
IsGathered old piece None new =
    (more : List ℕ) → (documents_from old (piece ++ more) ≡ documents_from new more) × (left_from old (piece ++ more) ≡ left_from new more)
IsGathered old piece (Some count) new =
    (0 < count) × (count ≤ length piece)
    × ((more : List ℕ) → (documents_from old (piece ++ more) ≡ document (all_read new) ∷ documents_from nothing_read (drop count piece ++ more))
    × (left_from old (piece ++ more) ≡ left_from nothing_read (drop count piece ++ more)))

-- what is read where a document that may be the last one is looked at: its last line is `---` and goes, or all stays
abbrev pub finished : Gathered → Gathered
finished g = if bytes_eq g.line (codes "---") then record { whole = g.whole; line = [] } else g

-- ---- an input

-- bytes behind the last line `---` are a document that was cut
abbrev pub cut_in : List ℕ → List Document
cut_in [] = []
cut_in (b ∷ bs) = cut ∷ []

-- what an input that ended has after the documents that ended in it: a document whose last line is `---` and ends with the input,
-- nothing, or the beginning of a document
abbrev pub last_of : Gathered → List Document
last_of g = if bytes_eq g.line (codes "---") then document g.whole ∷ [] else cut_in (all_read g)

-- the documents of an input that ended
abbrev pub documents : List ℕ → List Document
documents input = documents_from nothing_read input ++ last_of (left_from nothing_read input)
