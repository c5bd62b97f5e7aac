-- Identifiers of the tables of an array, and references to them.
use Rattle.std.specs.Prelude.{ℕ, List, Option, Some, None, is_none, Result, Ok}
use Rattle.std.specs.List.{position}
use Rattle.std.specs.Str.{bytes_eq}
use Rattle.rb_script_toml.specs.Faults.{Fault, ◌>>=◌, fault, check}
use Rattle.rb_script_toml.specs.Fields.{Field, identifier}
use Rattle.rb_script_toml.specs.declared.fault.FaultName.TheVariants.{UnknownIdentifier, DuplicateIdentifier}

abbrev pub known : List ℕ → Option ℕ → Result ℕ Fault
known path (Some i) = Ok i
known path None = fault UnknownIdentifier path

-- the place of the identifier among these
unfoldable pub reference : List (List ℕ) → Field → Result ℕ Fault
reference ids f = do
  id ← identifier f
  known f.path (position (bytes_eq id) ids)

-- an identifier that is none of these
unfoldable pub new_identifier : List (List ℕ) → Field → Result (List ℕ) Fault
new_identifier ids f = do
  id ← identifier f
  _ ← check (is_none (position (bytes_eq id) ids)) DuplicateIdentifier f.path
  Ok id
