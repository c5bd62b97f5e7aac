-- The versions of the format (own choice).
use Rattle.std.specs.Prelude.{ℕ, ◌==◌, if◌then◌else◌, Result, Ok}
use Rattle.rb_script_toml.specs.Faults.{Fault, ◌>>=◌}
use Rattle.rb_script_toml.specs.Fields.{Field, number}
use Rattle.rb_script_toml.specs.declared.fault.FaultName.TheVariants.{BadVersion}
use Rattle.rb_script_types.specs.declared.version.Version.{Version}
use Rattle.rb_script_types.specs.declared.version.Version.TheVariants.{One, Two, Three, Four}

abbrev pub version_of : ℕ → Version
version_of n = if n == 1 then One else (if n == 2 then Two else (if n == 3 then Three else Four))

-- 1 to 4
unfoldable pub version : Field → Result Version Fault
version f = do
  n ← number 1 4 BadVersion f
  Ok (version_of n)

-- records of a book
abbrev pub max_records : Version → ℕ
max_records One = 1024
max_records Two = 4096
max_records Three = 4096
max_records Four = 4096
