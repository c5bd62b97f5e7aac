-- What an error is told of.
use Rattle.std.specs.Prelude.{◌≡◌, ℕ, ⊤, List, ◌∷◌, None, Some, option_map}
use Rattle.std.specs.List.Sorted.{IsPermutation}
use Rattle.rb_import_check.specs.declared.error.CheckErrorName.{CheckErrorName}
use Rattle.rb_import_check.specs.declared.error.ImportError.{ImportError}
use Rattle.rb_import_check.specs.declared.error.ImportError.TheVariants as errors

-- the problem is told of this chain, client or path
abbrev pub IsToldOf : List ℕ → ImportError → Type 0
IsToldOf id (errors.CheckError p) = p.object.now ≡ id
IsToldOf id errors.NoMemory = ⊤

-- the problem is one whose name tells what holds
abbrev pub IsToldBy : (CheckErrorName → Type 0) → ImportError → Type 0
IsToldBy Tells (errors.CheckError p) = Tells p.name
IsToldBy Tells errors.NoMemory = ⊤

-- the problem has this name, and this holds
abbrev pub IsTold : CheckErrorName → Type 0 → ImportError → Type 0
IsTold name Reason (errors.CheckError p) = (p.name ≡ name) × Reason
IsTold name Reason errors.NoMemory = ⊤

-- the problem is between these two files, in this order
abbrev pub IsBetween : List ℕ → List ℕ → ImportError → Type 0
IsBetween file other (errors.CheckError p) = (option_map (λ f. f.now) p.file ≡ Some file) × (option_map (λ f. f.now) p.other ≡ Some other)
IsBetween file other errors.NoMemory = ⊥

-- the problem is that a script would be too big
abbrev pub IsTooBig : ImportError → Type 0
IsTooBig (errors.CheckError p) = p.name ≡ CheckErrorName.ScriptTooBig
IsTooBig errors.NoMemory = ⊥

-- ---- what an error names beside its reason

-- the problem is in this file, and in no other
abbrev pub IsIn : List ℕ → ImportError → Type 0
IsIn file (errors.CheckError p) = (option_map (λ f. f.now) p.file ≡ Some file) × (option_map (λ f. f.now) p.other ≡ None)
IsIn file errors.NoMemory = ⊥

-- this is the first file of the problem, which may have a second one
abbrev pub BeginsWith : List ℕ → ImportError → Type 0
BeginsWith file (errors.CheckError p) = option_map (λ f. f.now) p.file ≡ Some file
BeginsWith file errors.NoMemory = ⊥

-- it is at this height
abbrev pub IsAt : ℕ → ImportError → Type 0
IsAt height (errors.CheckError p) = p.number ≡ Some height
IsAt height errors.NoMemory = ⊥

-- it is of no height
abbrev pub IsOfNoHeight : ImportError → Type 0
IsOfNoHeight (errors.CheckError p) = p.number ≡ None
IsOfNoHeight errors.NoMemory = ⊥

-- it names this chain as the other one
abbrev pub NamesChain : List ℕ → ImportError → Type 0
NamesChain chain (errors.CheckError p) = option_map (λ c. c.now) p.chain ≡ Some chain
NamesChain chain errors.NoMemory = ⊥

-- it shows this hash of a header, and this one of a block
abbrev pub ShowsHashes : List ℕ → List ℕ → ImportError → Type 0
ShowsHashes header block (errors.CheckError p) =
    (option_map (λ h. h.header) p.hashes ≡ Some header) × (option_map (λ h. h.block) p.hashes ≡ Some block)
ShowsHashes header block errors.NoMemory = ⊥

-- these are two of them, at two places
abbrev pub AreTwoAmong : {A : Type 0} → A → A → List A → Type 0
AreTwoAmong {A} x y all = (others : List A) × IsPermutation all (x ∷ y ∷ others)

-- the problem is between the files of two of these, which clash
abbrev pub IsBetweenTwo : {A : Type 0} → (A → List ℕ) → (A → A → Type 0) → List A → ImportError → Type 0
IsBetweenTwo {A} file Clash all e = (x : A) × (y : A) × AreTwoAmong x y all × Clash x y × IsBetween (file x) (file y) e
