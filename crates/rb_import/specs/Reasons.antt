-- Why answers make no script.
use Rattle.std.specs.Prelude.{◌⊎◌, ⊤, ℕ, List}
use Rattle.rb_import_setup.specs.declared.setup.ImportSetup.{ImportSetup}
use Rattle.rb_import_check.specs.declared.error.CheckErrorName.{CheckErrorName}
use Rattle.rb_import_check.specs.declared.error.ImportError.{ImportError}
use Rattle.rb_import_check.specs.declared.error.ImportError.TheVariants as errors
use Rattle.rb_import_check.specs.declared.saved.SavedAnswers.{SavedAnswers}
use Rattle.rb_import_check.specs.declared.signed.Signatures.{Signatures}
use Rattle.rb_import_check.specs.Errors.{IsTold, IsToldOf}
use Rattle.rb_import_merge.specs.Named.{NamesNone}
use Rattle.rb_import_merge.specs.Reasons.{IsOfAnswers}
use Rattle.rb_import_merge.specs.Seen.{HoldsOfSeen}
use Rattle.rb_import_merge.specs.declared.seen.SeenSetup.{SeenSetup}
use Rattle.rb_import.specs.Shares.{IsLargest}

-- the error is told of the client that brings the most
abbrev pub NamesLargest : ImportSetup → SeenSetup → ImportError → Type 0
NamesLargest setup seen e = (id : List ℕ) × IsLargest setup seen id × IsToldOf id e

-- the script of what was seen would be too big; the error names no file and no number, and is told of the client that brings the most
abbrev pub IsOfSizeOf : ImportSetup → SeenSetup → ImportError → Type 0
IsOfSizeOf setup seen e = NamesNone e × IsTold CheckErrorName.ScriptTooBig (NamesLargest setup seen e) e

-- so it is of what was seen in these answers
abbrev pub IsOfSize : ImportSetup → Signatures → SavedAnswers → ImportError → Type 0
IsOfSize setup signatures answers e = HoldsOfSeen setup signatures answers (λ seen. IsOfSizeOf setup seen e)

-- the error has its reason in the answers of a chain, of a client or of a path, or in the size of the script; memory may run out at any
abbrev pub HasReasonOfScript : ImportSetup → Signatures → SavedAnswers → ImportError → Type 0
HasReasonOfScript setup signatures answers (errors.CheckError p) = IsOfAnswers setup answers (errors.CheckError p) ⊎ IsOfSize setup signatures answers (errors.CheckError p)
HasReasonOfScript setup signatures answers errors.NoMemory = ⊤
