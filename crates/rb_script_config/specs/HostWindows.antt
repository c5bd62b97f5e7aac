-- The tables of a turn's windows of hosts.
use Rattle.std.specs.Prelude.{ℕ, List, [], ◌∷◌, codes, Result, Ok, Bool, not, nat_le, ◌==◌}
use Rattle.std.specs.List.{list_any}
use Rattle.rb_script_types.specs.declared.script.HostWindow.{HostWindow}
use Rattle.rb_script_toml.specs.Faults.{Fault, ◌>>=◌, check}
use Rattle.rb_script_toml.specs.Fields.{Section, only, needs, time}
use Rattle.rb_script_toml.specs.declared.fault.FaultName.TheVariants.{DuplicateIdentifier, BadWindow}
use Rattle.rb_script_config.specs.Named.{reference}

abbrev pub window_keys : List (List ℕ)
window_keys = codes "host" ∷ codes "from" ∷ codes "until" ∷ []

abbrev pub has_window : ℕ → List HostWindow → Bool
has_window host before = list_any (λ (w : HostWindow). w.host == host) before

-- a window of one of the chains of these identifiers, beside those before it in the turn
unfoldable pub host_window : List (List ℕ) → List HostWindow → Section → Result HostWindow Fault
host_window chains before s = do
  _ ← only window_keys s
  host ← needs (codes "host") (reference chains) s
  from ← needs (codes "from") time s
  until ← needs (codes "until") time s
  _ ← check (not (has_window host before)) DuplicateIdentifier s.path
  _ ← check (nat_le from until) BadWindow s.path
  Ok (record { host = host; window = record { from = from; until = until } })
