-- What a follower is set up with: a script without turns.
use Rattle.std.specs.Prelude.{ℕ, List, codes, nat_le, Result}
use Rattle.rb_script_types.specs.Config.{Config}
use Rattle.rb_script_toml.specs.Faults.{Fault, ◌>>=◌, check}
use Rattle.rb_script_toml.specs.KeyPaths.{child}
use Rattle.rb_script_toml.specs.Fields.{Section, items_count}
use Rattle.rb_script_toml.specs.Documents.{document}
use Rattle.rb_script_toml.specs.declared.fault.FaultName.TheVariants.{TooManyObjects}
use Rattle.rb_script_config.specs.Tables.{tables, config}

-- its turns come later
unfoldable pub setup_in : Section → Result Config Fault
setup_in s = do
  t ← tables s
  _ ← check (nat_le (items_count t.turns) 0) TooManyObjects (child s.path (codes "turn"))
  config t

-- the setup of a text, or its first fault
unfoldable pub setup_of : List ℕ → Result Config Fault
setup_of bytes = do
  s ← document bytes
  setup_in s
