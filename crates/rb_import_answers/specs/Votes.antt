-- What a signature's flag says of its validator's vote (CometBFT, `BlockIDFlag`).
use Rattle.std.specs.Prelude.{ℕ, Option, Some, None, option_and_then, Result, ◌==◌, if◌then◌else◌}
use Rattle.serde_json.specs.Find.{as_number, as_u64}
use Rattle.rb_import_answers.specs.declared.commit.BlockIdFlag.{BlockIdFlag}
use Rattle.rb_import_answers.specs.declared.commit.BlockIdFlag.TheVariants.{Absent, Commit, Nil}
use Rattle.rb_import_json.specs.declared.error.FieldError.{FieldError}
use Rattle.rb_import_json.specs.declared.error.FieldErrorName.TheVariants.{WrongType, BadFlag}
use Rattle.rb_import_json.specs.declared.field_path.Key.{Key}
use Rattle.rb_import_json.specs.FieldErrors.{◌>>=◌, or_flaw}
use Rattle.rb_import_json.specs.Fields.{Object, flaw_at, field}

-- 1 is absent, 2 a vote for the block, 3 a vote for no block
abbrev pub flag_of : ℕ → Option BlockIdFlag
flag_of number =
    if number == 1 then Some Absent
    else if number == 2 then Some Commit
    else if number == 3 then Some Nil
    else None

-- the flag of an entry of a commit's `signatures`, which is a JSON number
unfoldable pub flag : Object → Result BlockIdFlag FieldError
flag o = do
  d ← field Key.BlockIdFlag o
  n ← or_flaw (flaw_at o Key.BlockIdFlag WrongType) (option_and_then as_u64 (as_number d))
  or_flaw (flaw_at o Key.BlockIdFlag BadFlag) (flag_of n)
