-- What a saved answer tells.
use Rattle.std.specs.Prelude.{◌≡◌, ◌≤◌, ⊤, ℕ, Bool, true, false, List, [], String, Err, All, length, string_bytes}
use Rattle.std.specs.Global.{Global}
use Rattle.rb_import_answers.specs.Answers.{Told, commit, told}
use Rattle.rb_import_answers.specs.Said.{IsPlain, plain_text, said, said_type}
use Rattle.rb_import_json.specs.declared.error.FieldErrorName.{FieldErrorName}
use Rattle.rb_import_check.specs.declared.saved.SavedError.{SavedError}
use Rattle.rb_import_check.specs.declared.saved.SavedError.TheVariants as errors

-- a commit, which verdicts know by the SHA-256 of its file
abbrev pub is_commit : Told → Bool
is_commit (commit header) = true
is_commit _ = false

-- what the node said, where the flaw is an error that it answered; the client's type, where the flaw is that it isn't supported; else nothing
abbrev pub said_with : FieldErrorName → List ℕ → List ℕ
said_with FieldErrorName.NodeError bytes = plain_text (said bytes)
said_with FieldErrorName.UnsupportedClient bytes = plain_text (said_type bytes)
said_with name bytes = []

-- the file's content, of a client's records those of this revision and of later ones, has this flaw, which is the first one in it; and this is what its node said, which is short and may stand in quotes
abbrev pub IsFlawOf : ℕ → String Global → List ℕ → SavedError → Type 0
IsFlawOf since file bytes (errors.Invalid name flaw text) =
    (name ≡ file) × (told since bytes ≡ Err flaw) × (string_bytes text ≡ said_with flaw.name bytes) × All IsPlain (string_bytes text)
    × (length (string_bytes text) ≤ 200)
IsFlawOf since file bytes errors.NoMemory = ⊤
