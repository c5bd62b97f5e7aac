-- Numbers that a script takes: its integers have 64 bits and a sign (TOML 1.0).
use Rattle.std.specs.Prelude.{ℕ, ◌^◌, ◌&&◌, nat_le, nat_lt, if◌then◌else◌, Option, Some, None, Result}
use Rattle.rb_import_json.specs.declared.error.FieldError.{FieldError}
use Rattle.rb_import_json.specs.declared.error.FieldErrorName.TheVariants.{BadNumber}
use Rattle.rb_import_json.specs.declared.field_path.Key.{Key}
use Rattle.rb_import_json.specs.FieldErrors.{◌>>=◌, or_flaw}
use Rattle.rb_import_json.specs.Fields.{Object, flaw_at, number}

unfoldable pub in_script : ℕ → Option ℕ
in_script n = if nat_lt n (2 ^ 63) then Some n else None

-- a packet's sequence (ICS 4: from 1)
unfoldable pub sequence_of : ℕ → Option ℕ
sequence_of n = if nat_le 1 n && nat_lt n (2 ^ 63) then Some n else None

unfoldable pub script_number : Key → Object → Result ℕ FieldError
script_number key o = do
  n ← number key o
  or_flaw (flaw_at o key BadNumber) (in_script n)

unfoldable pub sequence_number : Key → Object → Result ℕ FieldError
sequence_number key o = do
  n ← number key o
  or_flaw (flaw_at o key BadNumber) (sequence_of n)
