-- The tables of clients (ICS 7, `ClientState`).
use Rattle.std.specs.Prelude.{ℕ, List, map, codes, Result, Ok, not, ◌==◌}
use Rattle.rb_script_toml.specs.Faults.{Fault, ◌>>=◌, check}
use Rattle.rb_script_toml.specs.Fields.{Field, Section, optional, maybe, number, trust, max_number}
use Rattle.rb_script_toml.specs.declared.fault.FaultName.TheVariants.{OutOfRange, SameChain}
use Rattle.rb_script_types.specs.declared.version.Version.TheVariants.{Two}
use Rattle.rb_script_config.specs.Chains.{no_defaults}
use Rattle.rb_script_config.specs.Clients.{identity, terms}
use Rattle.rb_import_setup.specs.declared.setup.ClientSetup.{ClientSetup}
use Rattle.rb_import_setup.specs.declared.setup.TrustSetup.{TrustSetup}

unfoldable pub level : Field → Result TrustSetup Fault
level f = do
  r ← trust f
  Ok (record { numerator = r.numerator; denominator = r.denominator })

abbrev pub client_ids : List ClientSetup → List (List ℕ)
client_ids clients = map (λ c. c.id) clients

-- the chain that hosts a client, and the one that it tracks
abbrev pub client_ends : ClientSetup → ℕ × ℕ
client_ends c = (c.host, c.tracks)

-- a client of these chains, which share nothing, beside those before it
unfoldable pub client : List (List ℕ) → List ClientSetup → Section → Result ClientSetup Fault
client chains before s = do
  i ← identity Two chains (client_ids before) s
  period ← maybe (number 1 max_number OutOfRange) (optional (codes "period_ns") s)
  drift ← maybe (number 0 max_number OutOfRange) (optional (codes "drift_ns") s)
  t ← terms no_defaults s
  trusted ← maybe level (optional (codes "trust") s)
  _ ← check (not (i.host == i.tracks)) SameChain s.path
  Ok (record { id = i.id; host = i.host; tracks = i.tracks; period = period; drift = drift; trust = trusted; terms = t })
