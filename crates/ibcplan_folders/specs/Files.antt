-- What a file of a folder tells, by its name.
use Rattle.std.specs.Prelude.{◌≡◌, ℕ, List, true, Ok, if◌then◌else◌, string_bytes}
use Rattle.std.specs.declared.alloc.Global.{Global}
use Rattle.rb_script_types.specs.declared.script.Script.{Script}
use Rattle.rb_import_answers.specs.Answers.{Told, answer_view, is_verified, told, told_in}
use Rattle.rb_import_answers.specs.declared.answer.NodeAnswer.{NodeAnswer}
use Rattle.rb_import_check.specs.declared.signed.Signatures.{Signatures}
use Rattle.rb_import_check.specs.declared.signed.Signatures.TheVariants.{AsGiven, Verified}
use Rattle.rb_import_merge.specs.Seen.{HoldsOfSeen}
use Rattle.rb_import.specs.Scripts as made
use Rattle.rb_import.specs.Scripts.{IsFitting}
use Rattle.ibcplan_cli.specs.declared.given.Import.{Import}
use Rattle.ibcplan_folders.specs.declared.importing.ImportedText.{ImportedText}
use Rattle.ibcplan_folders.specs.declared.left_out.Fleet.{Fleet}

-- the file of this name tells this by its bytes; of a client's records those of this revision and of later ones
abbrev pub TellsIn : List ℕ → ℕ → List ℕ → Told → Type 0
TellsIn name since bytes told_so = (t : Told) × (told since bytes ≡ Ok t) × (told_so ≡ told_in name t)

-- an answer that is verdicts
abbrev pub HasVerdicts : NodeAnswer → Type 0
HasVerdicts a = is_verified (answer_view a) ≡ true

-- which votes count: all, or those with a good verdict
abbrev pub signatures_of : Import → Signatures
signatures_of asked = if asked.is_verified then Verified else AsGiven

-- the text is that of the script of a fleet's answers, of which these votes count
abbrev pub IsScriptOf : Fleet → Signatures → List ℕ → Type 0
IsScriptOf fleet signatures script = HoldsOfSeen fleet.setup signatures fleet.answers (λ seen. IsFitting fleet.setup fleet.answers seen script)

-- this is the script
abbrev pub IsMadeOf : Fleet → Signatures → Script Global → Type 0
IsMadeOf fleet signatures script = HoldsOfSeen fleet.setup signatures fleet.answers (λ seen. made.IsMadeOf fleet.setup fleet.answers seen script)

-- this holds of what is left of a fleet: of the whole fleet, where the import ends with status 0
abbrev pub HoldsOfRest : Fleet → ℕ → (Fleet → Type 0) → Type 0
HoldsOfRest fleet status Holds = (rest : Fleet) × (status ≡ 0 → rest ≡ fleet) × Holds rest

abbrev pub IsScriptOfRest : Fleet → Signatures → ImportedText → Type 0
IsScriptOfRest fleet signatures t = HoldsOfRest fleet t.status (λ rest. IsScriptOf rest signatures (string_bytes t.script))
