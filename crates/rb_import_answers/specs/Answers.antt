-- What an answer tells, and the first thing that is wrong with one.
use Rattle.std.specs.Prelude.{ℕ, List, length, nat_lt, ◌==◌, ◌&&◌, ◌||◌, Bool, true, false, not, if◌then◌else◌, count_by, Option, Some, None, is_some, Result, Ok, Err, codes}
use Rattle.std.specs.Str.{is_utf8, bytes_eq}
use Rattle.serde_json.specs.Data.{Data}
use Rattle.serde_json.specs.Find.{get, as_null}
use Rattle.serde_json.specs.Read.{read as read_text}
use Rattle.rb_import_answers.specs.declared.answer.NodeAnswer.{NodeAnswer}
use Rattle.rb_import_answers.specs.declared.answer.NodeAnswer.TheVariants as answers
use Rattle.rb_import_answers.specs.declared.client.TendermintClientState.{TendermintClientState}
use Rattle.rb_import_json.specs.declared.error.FieldError.{FieldError}
use Rattle.rb_import_json.specs.declared.error.FieldErrorName.{FieldErrorName}
use Rattle.rb_import_json.specs.declared.error.FieldErrorName.TheVariants.{TooBig, TooManyValues, UnknownShape, NodeError}
use Rattle.rb_import_json.specs.declared.field_path.Key.{Key}
use Rattle.rb_import_json.specs.declared.field_path.Segment.{Segment}
use Rattle.rb_import_json.specs.FieldErrors.{◌>>=◌, or_flaw}
use Rattle.rb_import_json.specs.Fields.{Object, has as has_member}
use Rattle.rb_import_answers.specs.Headers.{Signed, signed, signed_view, unvoted}
use Rattle.rb_import_answers.specs.Validators.{Page, page, page_view}
use Rattle.rb_import_answers.specs.Clients.{client_state, States, states, states_view}
use Rattle.rb_import_answers.specs.Packets.{Search, found, search_view}
use Rattle.rb_import_answers.specs.Pending.{Pending, is_pending, pending, pending_view}
use Rattle.rb_import_answers.specs.Queries.{query_of}
use Rattle.rb_import_answers.specs.Unread.{unread}
use Rattle.rb_import_answers.specs.Verdicts.{Verdicts, verdicts, verdicts_view}
use Rattle.rb_import_answers.specs.declared.query.OtherQuery.{OtherQuery}

pub data Told : Type 0 where
  commit : Signed → Told
  validators : Page → Told
  judging : TendermintClientState → Told
  stored : States → Told
  transactions : Search → Told
  packets : Pending → Told
  verified : Verdicts → Told
  other : OtherQuery → Told

abbrev pub answer_view : NodeAnswer → Told
answer_view (answers.Commit header) = commit (signed_view header)
answer_view (answers.Validators page) = validators (page_view page)
answer_view (answers.ClientState state) = judging state
answer_view (answers.ConsensusStates page) = stored (states_view page)
answer_view (answers.Transactions page) = transactions (search_view page)
answer_view (answers.Pending p) = packets (pending_view p)
answer_view (answers.Verdicts v) = verified (verdicts_view v)
answer_view (answers.Other query) = other query

-- the flaw of this name at the whole answer
abbrev pub whole : FieldErrorName → FieldError
whole name = record { name = name; place = record { part = Segment.Answer; index = None; key = Key.Whole } }

abbrev pub has : List ℕ → Data → Bool
has name d = is_some (get name d)

-- an answer to another query, which isn't needed
abbrev pub if_query : Option OtherQuery → Result Told FieldError
if_query (Some query) = Ok (other query)
if_query None = Err (whole UnknownShape)

-- an answer, known by one of its members; of a client's records those of this revision and of later ones
unfoldable pub known : ℕ → Object → Result Told FieldError
known since o =
    if has_member Key.SignedHeader o then (signed o >>= λ s. Ok (commit s))
    else if has_member Key.Validators o then (page o >>= λ p. Ok (validators p))
    else if has_member Key.Txs o then (found o >>= λ s. Ok (transactions s))
    else if has_member Key.ClientState o then (client_state o >>= λ s. Ok (judging s))
    else if has_member Key.ConsensusStates o then (states since o >>= λ s. Ok (stored s))
    else if has_member Key.Verdicts o then (verdicts o >>= λ v. Ok (verified v))
    else if is_pending o then (pending o >>= λ p. Ok (packets p))
    else if_query (query_of o)

abbrev pub tells_error : Option Data → Bool → Bool
tells_error (Some e) gateway = not (is_some (as_null e))
tells_error None gateway = gateway

-- an error is a member `error` of CometBFT's, or `message` of the gateway's or of what stands before a node
unfoldable pub is_error : Data → Bool
is_error d = tells_error (get (codes "error") d) (has (codes "message") d)

-- CometBFT's answers stand in a member `result` (JSON-RPC 2.0), or bare
abbrev pub of_shape : ℕ → Option Data → Data → Result Told FieldError
of_shape since (Some r) d = known since (record { value = r; part = Segment.Result; index = None })
of_shape since None d = known since (record { value = d; part = Segment.Answer; index = None })

unfoldable pub answer : ℕ → Data → Result Told FieldError
answer since d = if is_error d then Err (whole NodeError) else of_shape since (get (codes "result") d) d

-- JSON in UTF-8
unfoldable pub json : List ℕ → Option Data
json bytes = if is_utf8 bytes then read_text bytes else None

-- how many bytes an answer may have (own choice)
abbrev pub max_bytes : ℕ
max_bytes = 16777216

-- the byte that begins an object (RFC 8259): `{`
abbrev pub begins_object : ℕ → Bool
begins_object b = b == 123

-- a byte that marks a value (RFC 8259): `{` begins an object, `[` an array, and `,` stands before each further value of one
abbrev pub marks_value : ℕ → Bool
marks_value b = b == 123 || b == 91 || b == 44

-- how many bytes begin an object, and how many mark a value; such bytes within texts count, too
unfoldable pub object_count : List ℕ → ℕ
object_count bytes = count_by begins_object bytes

unfoldable pub value_count : List ℕ → ℕ
value_count bytes = count_by marks_value bytes

-- how many objects and values an answer may have (own choice): what is read of it takes memory by their numbers
abbrev pub max_objects : ℕ
max_objects = 400000

abbrev pub max_values : ℕ
max_values = 1200000

-- the file of a chain's folder that has the verdicts on its commits
abbrev pub verdicts_file : List ℕ
verdicts_file = codes "verdicts.json"

-- whether an answer is verdicts
abbrev pub is_verified : Told → Bool
is_verified (verified v) = true
is_verified _ = false

-- what an answer tells in the file of a name: verdicts count only in `verdicts.json` (own choice), since a node can answer with their text, too
abbrev pub told_in : List ℕ → Told → Told
told_in name t = if is_verified t && not (bytes_eq name verdicts_file) then other OtherQuery.Verdicts else t

-- what an answer tells without the votes of a commit, which messages alone need
abbrev pub without_votes : Told → Told
without_votes (commit s) = commit (unvoted s)
without_votes (validators p) = validators p
without_votes (judging s) = judging s
without_votes (stored s) = stored s
without_votes (transactions s) = transactions s
without_votes (packets p) = packets p
without_votes (verified v) = verified v
without_votes (other q) = other q

-- what an answer's bytes tell; of a client's records those of this revision and of later ones
unfoldable pub told : ℕ → List ℕ → Result Told FieldError
told since bytes =
    if nat_lt max_bytes (length bytes) then Err (whole TooBig)
    else if nat_lt max_objects (object_count bytes) then Err (whole TooManyValues)
    else if nat_lt max_values (value_count bytes) then Err (whole TooManyValues)
    else (or_flaw (whole (unread bytes)) (json bytes) >>= λ d. answer since d)
