-- The table that a text holds.
use Rattle.std.specs.Prelude.{ℕ, List, [], length, codes, Option, Some, None, Result, Ok, nat_lt, if◌then◌else◌}
use Rattle.std.specs.Str.{is_utf8}
use Rattle.toml.specs.Data.{Members}
use Rattle.toml.specs.Parse.{parse_document}
use Rattle.rb_script_toml.specs.Faults.{Fault, fault}
use Rattle.rb_script_toml.specs.Fields.{Section}
use Rattle.rb_script_toml.specs.Marks.{marks}
use Rattle.rb_script_toml.specs.declared.fault.FaultName.TheVariants.{NotToml, InputTooBig, TooManyTables}

-- how much a text may have (own choice)
abbrev pub max_bytes : ℕ
max_bytes = 16777216

-- A table takes some thousand bytes of memory, and eight keys as much: so this bounds what a text takes (own choice).
abbrev pub max_marks : ℕ
max_marks = 7200000

abbrev pub whole : Members → Section
whole members = record { path = []; members = members }

abbrev pub of_document : Option Members → Result Section Fault
of_document None = fault NotToml (codes "-")
of_document (Some members) = Ok (whole members)

-- a text of TOML (version 1.1) in UTF-8, of at most so many bytes, and so many marks
unfoldable pub document : List ℕ → Result Section Fault
document bytes =
    if nat_lt max_bytes (length bytes) then fault InputTooBig (codes "-")
    else if nat_lt max_marks (marks bytes) then fault TooManyTables (codes "-")
    else of_document (if is_utf8 bytes then parse_document bytes else None)
