-- What an error is told of.
use Rattle.std.specs.Prelude.{◌≡◌, ◌⊎◌, ℕ, ⊤, List, [], ◌∷◌, All, Contains, codes}
use Rattle.rb_import_setup.specs.declared.setup.ClientSetup.{ClientSetup}
use Rattle.rb_import_setup.specs.declared.setup.PathSetup.{PathSetup}
use Rattle.rb_import_setup.specs.declared.setup.ImportSetup.{ImportSetup}
use Rattle.rb_import_check.specs.declared.error.CheckError.{CheckError}
use Rattle.rb_import_check.specs.declared.error.ImportError.{ImportError}
use Rattle.rb_import_check.specs.declared.error.ImportError.TheVariants as errors
use Rattle.rb_import_merge.specs.declared.errors.ImportErrors.{ImportErrors}
use Rattle.rb_import_merge.specs.declared.errors.ImportErrors.TheVariants as all

-- the identifier of a chain, a client or a path of the setup, or `-`, which stands for the script
abbrev pub IsNamedIn : ImportSetup → List ℕ → Type 0
IsNamedIn setup id =
    Contains setup.chains.items id
    ⊎ ((c : ClientSetup) × Contains setup.clients.items c × (c.id ≡ id))
    ⊎ ((p : PathSetup) × Contains setup.paths.items p × (p.config.id ≡ id))
    ⊎ (id ≡ codes "-")

-- the problem is told of an object of the setup, or of the script
abbrev pub IsToldIn : ImportSetup → ImportError → Type 0
IsToldIn setup (errors.CheckError p) = IsNamedIn setup p.object.now
IsToldIn setup errors.NoMemory = ⊤

-- ---- all that is refused

-- these are the problems, in their order
abbrev pub AreThese : List CheckError → ImportErrors → Type 0
AreThese problems (all.Refused r) = problems ≡ r.first ∷ r.others.items
AreThese problems all.NoMemory = ⊥

-- the problem, and no other
abbrev pub AreAlone : ImportError → ImportErrors → Type 0
AreAlone (errors.CheckError p) e = AreThese (p ∷ []) e
AreAlone errors.NoMemory e = e ≡ all.NoMemory

-- this holds of each problem; memory may run out at any
abbrev pub OfEach : (ImportError → Type 0) → ImportErrors → Type 0
OfEach Holds (all.Refused r) = All (λ (p : CheckError). Holds (errors.CheckError p)) (r.first ∷ r.others.items)
OfEach Holds all.NoMemory = ⊤
