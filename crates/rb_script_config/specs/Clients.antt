-- The tables of clients.
use Rattle.std.specs.Prelude.{ℕ, ◌/◌, List, [], ◌∷◌, map, codes, Option, Some, None, option_map, unwrap_or, slice_get, Result, Ok, not, ◌==◌, if◌then◌else◌}
use Rattle.std.specs.Option.{option_or}
use Rattle.std.specs.Str.{bytes_eq}
use Rattle.rb_batch.specs.Limits.{TransactionLimits}
use Rattle.rb_script_types.specs.declared.config.ClientConfig.{ClientConfig}
use Rattle.rb_script_types.specs.declared.config.RefreshTo.{RefreshTo}
use Rattle.rb_script_types.specs.declared.config.RefreshTo.TheVariants.{Lowest, Highest, Newer}
use Rattle.rb_script_types.specs.declared.version.Version.{Version}
use Rattle.rb_script_types.specs.declared.version.Version.TheVariants.{One, Two, Three, Four}
use Rattle.rb_base.specs.declared.ties.Ties.{Ties}
use Rattle.rb_base.specs.declared.ties.Ties.TheVariants.{Lower, Higher}
use Rattle.rb_base.specs.declared.votes.CarriedVotes.{CarriedVotes}
use Rattle.rb_base.specs.declared.votes.CarriedVotes.TheVariants.{Commit, Cast, Needed}
use Rattle.rb_script_toml.specs.Faults.{Fault, ◌>>=◌, check, fault}
use Rattle.rb_script_toml.specs.KeyPaths.{element}
use Rattle.rb_script_toml.specs.Fields.{Field, Section, only, text, needs, optional, or_default, maybe, number, within, three_integers, fee_table, trust, max_number}
use Rattle.rb_script_toml.specs.declared.fault.FaultName.TheVariants.{OutOfRange, BadLimit, BadVotes, SameChain}
use Rattle.rb_script_config.specs.declared.defaults.Defaults.{Defaults}
use Rattle.rb_script_config.specs.declared.chain.Chain.{Chain}
use Rattle.rb_script_config.specs.declared.client.ClientIdentity.{ClientIdentity}
use Rattle.rb_script_config.specs.declared.client.ClientTerms.{ClientTerms}
use Rattle.rb_script_config.specs.Named.{reference, new_identifier}
use Rattle.rb_script_config.specs.Chains.{chain_ids, no_defaults}

-- gas, count and the gas of a transaction
unfoldable pub limits : Field → Result TransactionLimits Fault
limits f = do
  n ← three_integers f
  gas ← within 1 1000000000000000 BadLimit (element f.path 0) n.0
  count ← within 1 10000 BadLimit (element f.path 1) n.1
  transaction ← within 0 1000000000 BadLimit (element f.path 2) n.2
  Ok (record { gas = gas; count = count; transaction_gas = transaction })

abbrev pub client_ids : List ClientConfig → List (List ℕ)
client_ids clients = map (λ c. c.id) clients

-- the chain that hosts a client, and the one that it tracks
abbrev pub client_ends : ClientConfig → ℕ × ℕ
client_ends c = (c.host, c.tracks)

-- from version 3 on also which votes its updates carry
abbrev pub client_keys : Version → List (List ℕ)
client_keys One =
    codes "id" ∷ codes "host" ∷ codes "of" ∷ codes "period_ns" ∷ codes "drift_ns" ∷ codes "refresh_ns" ∷ codes "fee" ∷ codes "gas"
    ∷ codes "limits" ∷ codes "trust" ∷ []
client_keys Two =
    codes "id" ∷ codes "host" ∷ codes "of" ∷ codes "period_ns" ∷ codes "drift_ns" ∷ codes "refresh_ns" ∷ codes "fee" ∷ codes "gas"
    ∷ codes "limits" ∷ codes "trust" ∷ []
client_keys Three =
    codes "id" ∷ codes "host" ∷ codes "of" ∷ codes "period_ns" ∷ codes "drift_ns" ∷ codes "refresh_ns" ∷ codes "fee" ∷ codes "gas"
    ∷ codes "limits" ∷ codes "trust" ∷ codes "votes" ∷ []
client_keys Four =
    codes "id" ∷ codes "host" ∷ codes "of" ∷ codes "period_ns" ∷ codes "drift_ns" ∷ codes "refresh_ns" ∷ codes "fee" ∷ codes "gas"
    ∷ codes "limits" ∷ codes "trust" ∷ codes "votes" ∷ []

-- what the clients that track this chain share
abbrev pub shared_by : List Chain → ℕ → Defaults
shared_by chains i = unwrap_or (option_map (λ c. c.defaults) (slice_get chains i)) no_defaults

-- what a client's own key holds, read so, or what is shared; where nothing is shared, the key is needed
abbrev pub own : {A : Type 0} → Option A → List ℕ → (Field → Result A Fault) → Section → Result A Fault
own None key read s = needs key read s
own (Some x) key read s = or_default x read (optional key s)

-- which client it is, of these chains, beside the clients before it
unfoldable pub identity : Version → List (List ℕ) → List (List ℕ) → Section → Result ClientIdentity Fault
identity version chains before s = do
  _ ← only (client_keys version) s
  id ← needs (codes "id") (new_identifier before) s
  host ← needs (codes "host") (reference chains) s
  tracks ← needs (codes "of") (reference chains) s
  Ok (record { id = id; host = host; tracks = tracks })

-- what scripts and setups say of a client alike
unfoldable pub terms : Defaults → Section → Result ClientTerms Fault
terms d s = do
  own_refresh ← maybe (number 0 max_number OutOfRange) (optional (codes "refresh_ns") s)
  fees ← own d.fees (codes "fee") fee_table s
  gas ← own d.gas (codes "gas") fee_table s
  limit ← needs (codes "limits") limits s
  Ok (record { refresh = option_or own_refresh d.refresh; fees = fees; gas = gas; limits = limit })

abbrev pub carried_of : List ℕ → Option CarriedVotes
carried_of word =
    if bytes_eq word (codes "all") then Some Cast
    else if bytes_eq word (codes "needed") then Some Needed
    else None

abbrev pub votes_or_fault : List ℕ → Option CarriedVotes → Result CarriedVotes Fault
votes_or_fault path (Some votes) = Ok votes
votes_or_fault path None = fault BadVotes path

unfoldable pub carried : Field → Result CarriedVotes Fault
carried f = do
  word ← text f
  votes_or_fault f.path (carried_of word)

-- which votes updates carry, and are charged for: all, of which the first versions charge commit votes alone; from version
-- 3 on as the key says, and all where it isn't there
abbrev pub votes_in : Version → Section → Result CarriedVotes Fault
votes_in One s = Ok Commit
votes_in Two s = Ok Commit
votes_in Three s = or_default Cast carried (optional (codes "votes") s)
votes_in Four s = or_default Cast carried (optional (codes "votes") s)

-- how clients are refreshed: in version 3 to the greatest height, from version 4 on by gain
abbrev pub refresh_to : Version → RefreshTo
refresh_to One = Lowest
refresh_to Two = Lowest
refresh_to Three = Highest
refresh_to Four = Newer

-- the refresh age where none is given: from version 4 on a third of the trusting period, before that never
abbrev pub default_refresh : Version → ℕ → ℕ
default_refresh One period = 0
default_refresh Two period = 0
default_refresh Three period = 0
default_refresh Four period = period / 3

-- which heights come first in lists of updates that are equally cheap: the lower ones in versions 1 to 3, the higher ones from version 4 on
abbrev pub ties_of : Version → Ties
ties_of One = Lower
ties_of Two = Lower
ties_of Three = Lower
ties_of Four = Higher

-- a client of these chains, beside those before it
unfoldable pub client : Version → List Chain → List ClientConfig → Section → Result ClientConfig Fault
client version chains before s = do
  i ← identity version (chain_ids chains) (client_ids before) s
  let d = shared_by chains i.tracks
  period ← own d.period (codes "period_ns") (number 1 max_number OutOfRange) s
  drift ← own d.drift (codes "drift_ns") (number 0 max_number OutOfRange) s
  t ← terms d s
  level ← or_default d.trust trust (optional (codes "trust") s)
  votes ← votes_in version s
  _ ← check (not (i.host == i.tracks)) SameChain s.path
  Ok (record {
    id = i.id;
    host = i.host;
    tracks = i.tracks;
    options = record { period = period; drift = drift; trust = level; votes = votes; ties = ties_of version };
    refresh = unwrap_or t.refresh (default_refresh version period);
    refresh_to = refresh_to version;
    fees = t.fees;
    gas = t.gas;
    limits = t.limits;
  })
