-- The script of a text.
use Rattle.std.specs.Prelude.{ℕ, List, Result, Ok}
use Rattle.std.specs.declared.alloc.Global.{Global}
use Rattle.rb_script_types.specs.Script.{Script}
use Rattle.rb_script_toml.specs.Faults.{Fault, ◌>>=◌}
use Rattle.rb_script_toml.specs.Fields.{Section}
use Rattle.rb_script_toml.specs.Documents.{document}
use Rattle.rb_script_read.specs.Turns.{opening, turns_of}
use Rattle.rb_script_read.specs.Work.{little}
use Rattle.rb_script_config.specs.Tables.{tables, config}

unfoldable pub script : Section → Result (Script Global) Fault
script s = do
  t ← tables s
  c ← config t
  turns ← turns_of c opening t.turns
  _ ← little c turns.0
  Ok (record { config = c; turns = turns.0 })

-- the script of a text, or its first fault
unfoldable pub script_of : List ℕ → Result (Script Global) Fault
script_of bytes = do
  s ← document bytes
  script s
