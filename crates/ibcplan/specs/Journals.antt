-- What the file of a journal takes.
use Rattle.std.specs.Prelude.{◌≡◌, ℕ, Bool, List, [], ◌∷◌, Vec, Option}
use Rattle.std.specs.Global.{Global}
use Rattle.std.specs.Io.KnownBytes.{Appends}
use Rattle.rb_journal.specs.Entries.{IsEntry}

-- the part for a document stands behind what was there
abbrev pub AddsEntry : Bool → List ℕ → Option (List ℕ) → Option (List ℕ) → Type 0
AddsEntry digests document old new = (part : List ℕ) × Appends old new part × IsEntry digests document part

-- a document is the next of those that the file has already, or its part is added where none of them is left
abbrev pub StoresNext : Bool → List ℕ → List (Vec ℕ Global) → List (Vec ℕ Global) → Option (List ℕ) → Option (List ℕ) → Type 0
StoresNext digests document [] left old new = AddsEntry digests document old new
StoresNext digests document (next ∷ rest) left old new = (next.items ≡ document) × (left ≡ rest) × (new ≡ old)
