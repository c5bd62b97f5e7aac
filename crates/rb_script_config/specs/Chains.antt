-- The tables of chains, and of what the clients that track a chain share.
use Rattle.std.specs.Prelude.{ℕ, List, [], ◌∷◌, map, codes, Option, Some, None, Result, Ok}
use Rattle.rb_base.specs.Fraction.{one_third}
use Rattle.rb_script_toml.specs.Faults.{Fault, ◌>>=◌}
use Rattle.rb_script_toml.specs.Fields.{Field, Section, section_at, only, needs, optional, or_default, maybe, number, fee_table, trust, max_number}
use Rattle.rb_script_toml.specs.declared.fault.FaultName.TheVariants.{OutOfRange}
use Rattle.rb_script_types.specs.declared.version.Version.{Version}
use Rattle.rb_script_types.specs.declared.version.Version.TheVariants.{One, Two, Three, Four}
use Rattle.rb_script_config.specs.declared.defaults.Defaults.{Defaults}
use Rattle.rb_script_config.specs.declared.chain.Chain.{Chain}
use Rattle.rb_script_config.specs.Named.{new_identifier}

-- nothing is shared; without a key of its own a client's trust level is a third
abbrev pub no_defaults : Defaults
no_defaults = record { period = None; drift = None; refresh = None; fees = None; gas = None; trust = one_third }

abbrev pub default_keys : List (List ℕ)
default_keys = codes "period_ns" ∷ codes "drift_ns" ∷ codes "refresh_ns" ∷ codes "fee" ∷ codes "gas" ∷ codes "trust" ∷ []

-- what clients share: any of these keys, each as a client has it
unfoldable pub defaults : Section → Result Defaults Fault
defaults s = do
  _ ← only default_keys s
  period ← maybe (number 1 max_number OutOfRange) (optional (codes "period_ns") s)
  drift ← maybe (number 0 max_number OutOfRange) (optional (codes "drift_ns") s)
  refresh ← maybe (number 0 max_number OutOfRange) (optional (codes "refresh_ns") s)
  fees ← maybe fee_table (optional (codes "fee") s)
  gas ← maybe fee_table (optional (codes "gas") s)
  level ← or_default one_third trust (optional (codes "trust") s)
  Ok (record { period = period; drift = drift; refresh = refresh; fees = fees; gas = gas; trust = level })

unfoldable pub defaults_at : Field → Result Defaults Fault
defaults_at f = do
  s ← section_at f.path f.value
  defaults s

-- from version 2 on
abbrev pub shared : Version → Section → Result Defaults Fault
shared One s = Ok no_defaults
shared Two s = or_default no_defaults defaults_at (optional (codes "defaults") s)
shared Three s = or_default no_defaults defaults_at (optional (codes "defaults") s)
shared Four s = or_default no_defaults defaults_at (optional (codes "defaults") s)

abbrev pub chain_keys : Version → List (List ℕ)
chain_keys One = codes "id" ∷ []
chain_keys Two = codes "id" ∷ codes "defaults" ∷ []
chain_keys Three = codes "id" ∷ codes "defaults" ∷ []
chain_keys Four = codes "id" ∷ codes "defaults" ∷ []

abbrev pub chain_ids : List Chain → List (List ℕ)
chain_ids chains = map (λ c. c.id) chains

-- a chain, beside those before it
unfoldable pub chain : Version → List Chain → Section → Result Chain Fault
chain version before s = do
  _ ← only (chain_keys version) s
  id ← needs (codes "id") (new_identifier (chain_ids before)) s
  d ← shared version s
  Ok (record { id = id; defaults = d })
