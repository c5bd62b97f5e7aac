-- The answers of ibc-go's gateway on a client: `client_states/ID` and `consensus_states/ID` (ICS 2, ICS 7).
use Rattle.std.specs.Prelude.{ℕ, suc, ◌*◌, ◌^◌, List, [], length, Bool, true, false, Option, Some, None, is_some, option_and_then, option_map, Result, Ok, Err, codes, string_bytes, ⊤, ◌==◌, ◌&&◌, ◌||◌, ◌++◌, option_to_list, nat_le, nat_lt, if◌then◌else◌}
use Rattle.std.specs.Result.{result_ok}
use Rattle.std.specs.Str.{bytes_eq}
use Rattle.serde_json.specs.Data.{Data, Items, no_items, item}
use Rattle.serde_json.specs.Find.{as_null, as_str}
use Rattle.rb_import_answers.specs.declared.client.TendermintClientState.{TendermintClientState}
use Rattle.rb_import_answers.specs.declared.client.ConsensusPage.{ConsensusPage}
use Rattle.rb_import_answers.specs.declared.client.ConsensusState.{ConsensusState}
use Rattle.rb_import_answers.specs.declared.client.TrustLevel.{TrustLevel}
use Rattle.rb_import_json.specs.declared.error.FieldError.{FieldError}
use Rattle.rb_import_json.specs.declared.error.FieldErrorName.TheVariants.{UnsupportedClient, FrozenClient, BadTrust, BadDuration, BadBase64}
use Rattle.rb_import_json.specs.declared.field_path.Key.{Key}
use Rattle.rb_import_json.specs.declared.field_path.Segment.{Segment}
use Rattle.rb_import_json.specs.FieldErrors.{◌>>=◌, or_flaw, must}
use Rattle.rb_import_json.specs.Fields.{Object, flaw_at, has, field, inner, object, items, text, number_or_zero, height, chain, time, record_hash, base64_bytes}
use Rattle.rb_import_answers.specs.Durations.{nanoseconds_of}
use Rattle.rb_import_answers.specs.Numbers.{in_script, script_number}
use Rattle.rb_import_answers.specs.Roots.{root_of}

-- only Tendermint's light clients are read
unfoldable pub tendermint : Object → Result ⊤ FieldError
tendermint state = do
  kind ← text Key.TypeUrl state
  must (flaw_at state Key.TypeUrl UnsupportedClient) (bytes_eq kind (codes "/ibc.lightclients.tendermint.v1.ClientState"))

abbrev pub unfrozen : Object → Result ⊤ FieldError
unfrozen state = do
  frozen ← object Key.FrozenHeight Segment.FrozenHeight state
  revision ← number_or_zero Key.RevisionNumber frozen
  at ← number_or_zero Key.RevisionHeight frozen
  must (flaw_at state Key.FrozenHeight FrozenClient) (revision == 0 && at == 0)

-- the height at which a client is frozen is 0-0 where it isn't, or isn't there
unfoldable pub live : Object → Result ⊤ FieldError
live state = if has Key.FrozenHeight state then unfrozen state else Ok tt

-- the revision number of the chain that a client tracks is that of its latest height
unfoldable pub revision : Object → Result ℕ FieldError
revision state = do
  latest ← object Key.LatestHeight Segment.LatestHeight state
  number_or_zero Key.RevisionNumber latest

-- the height of the latest record that a client has stored, within that revision
unfoldable pub latest : Object → Result ℕ FieldError
latest state = do
  at ← object Key.LatestHeight Segment.LatestHeight state
  number_or_zero Key.RevisionHeight at

-- a trust level is from a third to one, in numbers that a script takes
unfoldable pub trust : Object → Result TrustLevel FieldError
trust state = do
  level ← object Key.TrustLevel Segment.TrustLevel state
  numerator ← script_number Key.Numerator level
  denominator ← script_number Key.Denominator level
  _ ← must (flaw_at state Key.TrustLevel BadTrust) (nat_lt 0 denominator && nat_le denominator (3 * numerator) && nat_le numerator denominator)
  Ok (record { numerator = numerator; denominator = denominator })

unfoldable pub period_of : ℕ → Option ℕ
period_of n = if nat_le 1 n && nat_lt n (2 ^ 63) then Some n else None

unfoldable pub period : Object → Result ℕ FieldError
period state = do
  t ← text Key.TrustingPeriod state
  or_flaw (flaw_at state Key.TrustingPeriod BadDuration) (option_and_then period_of (nanoseconds_of t))

unfoldable pub drift : Object → Result ℕ FieldError
drift state = do
  t ← text Key.MaxClockDrift state
  or_flaw (flaw_at state Key.MaxClockDrift BadDuration) (option_and_then in_script (nanoseconds_of t))

unfoldable pub client_state : Object → Result TendermintClientState FieldError
client_state answer = do
  state ← object Key.ClientState Segment.ClientState answer
  _ ← tendermint state
  _ ← live state
  id ← chain Key.ChainId state
  n ← revision state
  newest ← latest state
  level ← trust state
  long ← period state
  skew ← drift state
  Ok (record { chain = id; revision = n; latest = newest; trust = level; period = long; drift = skew })

-- the root of a record, of 1 to 64 bytes, as a script has it
unfoldable pub root : Object → Result (List ℕ) FieldError
root state = do
  r ← inner Key.Root state
  b ← base64_bytes Key.Hash r
  if length b == 0 then Err (flaw_at r Key.Hash BadBase64) else Ok (root_of b)

-- an entry of `consensus_states`, of this revision number and height: what it holds
unfoldable pub consensus_state : ℕ → ℕ → Object → Result ConsensusState FieldError
consensus_state n h o = do
  state ← inner Key.ConsensusState o
  moment ← time Key.Timestamp state
  bytes ← root state
  next ← record_hash Key.NextValidatorsHash state
  Ok (record { revision = n; height = h; time = moment; root = bytes; next = next })

-- the type of a record's state, where it names one
unfoldable pub named_type : Object → Result ⊤ FieldError
named_type state = do
  kind ← text Key.TypeUrl state
  must (flaw_at state Key.TypeUrl UnsupportedClient) (bytes_eq kind (codes "/ibc.lightclients.tendermint.v1.ConsensusState"))

-- only records of Tendermint's light clients are read
unfoldable pub state_type : Object → Result ⊤ FieldError
state_type o =
    if has Key.ConsensusState o then (inner Key.ConsensusState o >>= λ state. if has Key.TypeUrl state then named_type state else Ok tt)
    else Ok tt

-- a record, if it isn't of a revision before this one: the rest of such an entry isn't read, since ibc-go takes no update from it
unfoldable pub state_since : ℕ → Object → Result (Option ConsensusState) FieldError
state_since since o = do
  _ ← state_type o
  at ← inner Key.Height o
  n ← number_or_zero Key.RevisionNumber at
  h ← height Key.RevisionHeight at
  if nat_lt n since then Ok None else (consensus_state n h o >>= λ s. Ok (Some s))

-- the records of a revision and of later ones among entries, the first of which stands at this index, after those before them
abbrev pub states_since : ℕ → ℕ → List ConsensusState → Items → Result (List ConsensusState) FieldError
states_since since index before no_items = Ok before
states_since since index before (item d ds) =
    state_since since (record { value = d; part = Segment.ConsensusStates; index = Some index }) >>= λ s.
    states_since since (suc index) (before ++ option_to_list s) ds

-- the states of a page, whether no page follows, and the key of the next page as the gateway wrote it
pub record States : Type 0 where
  pub states : List ConsensusState
  pub is_last : Bool
  pub next_key : Option (List ℕ)

abbrev pub states_view : ConsensusPage → States
states_view p = record { states = p.states.items; is_last = p.is_last; next_key = option_map string_bytes p.next_key }

abbrev pub is_empty : Option (List ℕ) → Bool
is_empty (Some t) = length t == 0
is_empty None = false

abbrev pub is_empty_text : Data → Bool
is_empty_text d = is_empty (as_str d)

-- the key of the next page isn't there, is null or is empty
unfoldable pub ends : Object → Result Bool FieldError
ends pagination = if has Key.NextKey pagination then (field Key.NextKey pagination >>= λ d. Ok (is_some (as_null d) || is_empty_text d)) else Ok true

unfoldable pub is_last : Object → Result Bool FieldError
is_last answer = if has Key.Pagination answer then (object Key.Pagination Segment.Pagination answer >>= ends) else Ok true

-- the key of the next page (ibc-go: base64), where it is a text
unfoldable pub next_key : Object → Option (List ℕ)
next_key answer = result_ok (inner Key.Pagination answer >>= text Key.NextKey)

unfoldable pub states : ℕ → Object → Result States FieldError
states since answer = do
  last ← is_last answer
  entries ← items Key.ConsensusStates answer
  read ← states_since since 0 [] entries
  Ok (record { states = read; is_last = last; next_key = next_key answer })
