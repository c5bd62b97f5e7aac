-- Whether a stored record is what the chain's header says (ICS 7: a client stores a header's time, root and next set).
use Rattle.std.specs.Prelude.{◌≡◌, ⊤, List, All, Any}
use Rattle.rb_import_check.specs.declared.chain.Commit.{Commit}
use Rattle.rb_import_check.specs.declared.client.Stored.{Stored}
use Rattle.rb_import_check.specs.declared.error.ImportError.{ImportError}
use Rattle.rb_import_check.specs.declared.error.ImportError.TheVariants as errors
use Rattle.rb_import_check.specs.Errors.{IsAt, IsBetween}

-- the record has the time, the root and the next set of this header
abbrev pub IsAsHeader : Stored → Commit → Type 0
IsAsHeader s c =
    (s.state.now.time ≡ c.header.now.time) × (s.state.now.root ≡ c.header.now.root) × (s.state.now.next ≡ c.header.now.next)

-- the record is as the header of its height, if there is one
unfoldable pub AgreesWith : List Commit → Stored → Type 0
AgreesWith commits s = All (λ (c : Commit). c.header.now.height ≡ s.state.now.height → IsAsHeader s c) commits

-- the record isn't as this header of its height, and the error is between their files, and names the height
abbrev pub DiffersFrom : Commit → Stored → ImportError → Type 0
DiffersFrom c s e = (c.header.now.height ≡ s.state.now.height) × (¬ IsAsHeader s c) × IsAt s.state.now.height e × IsBetween s.file.now c.file.now e

-- the error names a record and a header that differ; memory may run out
abbrev pub NamesDifference : List Commit → List Stored → ImportError → Type 0
NamesDifference commits stored (errors.CheckError p) = Any (λ s. Any (λ c. DiffersFrom c s (errors.CheckError p)) commits) stored
NamesDifference commits stored errors.NoMemory = ⊤
