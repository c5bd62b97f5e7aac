-- (internal) A fleet on the way: what is left of it, and the answers that were refused.
use Rattle.std.specs.Prelude.{◌≡◌, ◌⊎◌, ℕ, false, true, is_some, List, [], ◌∷◌, ◌++◌, Vec, string_bytes, map}
use Rattle.std.specs.Global.{Global}
use Rattle.std.specs.List.{AllZip, enumerate_from, items_where_true}
use Rattle.rb_import_check.specs.declared.saved.Saved.{Saved}
use Rattle.rb_import_setup.specs.declared.setup.ClientSetup.{ClientSetup}
use Rattle.rb_import_setup.specs.declared.setup.ImportSetup.{ImportSetup}
use Rattle.rb_import_check.specs.declared.signed.Signatures.{Signatures}
use Rattle.ibcplan_folders.specs.Files.{HoldsOfRest, IsMadeOf}
use Rattle.ibcplan_folders.specs.Fleets.{IsWithout, is_tracked}
use Rattle.ibcplan_folders.specs.LeftOut.{clients_stay, paths_stay}
use Rattle.ibcplan_folders.specs.declared.importing.MadeScript.{MadeScript}
use Rattle.ibcplan_folders.specs.declared.left_out.Failure.{Failure}
use Rattle.ibcplan_folders.specs.declared.left_out.Fleet.{Fleet}
use Rattle.ibcplan_folders.specs.declared.left_out.LeftOut.{LeftOut}

-- the answers of a chain stay, if a client tracks it
abbrev pub StaysTracked : List ClientSetup → ℕ × Vec Saved Global → Vec Saved Global → Type 0
StaysTracked clients p saved = is_tracked clients p.0 ≡ true → saved ≡ p.1

-- what is left of a fleet where the answers of an identifier are refused
pub record IsFleetWithout (id : List ℕ) (f rest : Fleet) : Type 0 where
  pub setup : IsWithout id f.setup rest.setup
  pub chains : AllZip (StaysTracked rest.setup.clients.items) (enumerate_from 0 f.answers.chains.items) rest.answers.chains.items
  pub clients : rest.answers.clients.items ≡ items_where_true (clients_stay f id) f.answers.clients.items
  pub paths : rest.answers.paths.items ≡ items_where_true (paths_stay f id) f.answers.paths.items

-- and where those of several are, one after the other
abbrev pub IsLeftOf : List (List ℕ) → Fleet → Fleet → Type 0
IsLeftOf [] f rest = f ≡ rest
IsLeftOf (id ∷ ids) f rest = (next : Fleet) × IsFleetWithout id f next × IsLeftOf ids next rest

abbrev pub IsLeft : Fleet → Fleet → Type 0
IsLeft f rest = (ids : List (List ℕ)) × IsLeftOf ids f rest

-- where nothing is left out after this, nothing was before, and the setup is the whole one
abbrev pub StaysWhole : LeftOut → LeftOut → ImportSetup → ImportSetup → Type 0
StaysWhole old new setup rest = is_some new.first ≡ false → (is_some old.first ≡ false) × (rest ≡ setup)

abbrev pub failed : List Failure → List (List ℕ)
failed failures = map (λ f. string_bytes f.id) failures

-- more of them than before
abbrev pub HasMore : List (List ℕ) → List (List ℕ) → Type 0
HasMore old new = (more : List (List ℕ)) × (new ≡ old ++ more)

abbrev pub IsAmong : List (List ℕ) → List ℕ → Type 0
IsAmong [] id = ⊥
IsAmong (x ∷ xs) id = (x ≡ id) ⊎ IsAmong xs id

-- this is said of the answers of an identifier, or they were refused
abbrev pub OrFailed : (ℕ → List ℕ → Vec Saved Global → Type 0) → List (List ℕ) → ℕ → List ℕ → Vec Saved Global → Type 0
OrFailed Has ids since id saved = Has since id saved ⊎ IsAmong ids id

-- the script is that of what is left of a fleet: of the whole fleet, where the import ends with status 0
abbrev pub IsMadeOfLeft : Fleet → Signatures → MadeScript → Type 0
IsMadeOfLeft fleet signatures m = HoldsOfRest fleet m.status (λ rest. IsLeft fleet rest × IsMadeOf rest signatures m.script)
