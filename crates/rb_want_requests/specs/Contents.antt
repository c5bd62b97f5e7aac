-- What a file of a folder holds, by what its bytes tell.
use Rattle.std.specs.Prelude.{ℕ, nat_eq, if◌then◌else◌, List, ◌++◌, length, drop, codes, Option, Some, None, Result, Ok, Err}
use Rattle.std.specs.Fmt.{decimal}
use Rattle.std.specs.List.{starts_with}
use Rattle.rb_import_json.specs.declared.error.FieldError.{FieldError}
use Rattle.rb_import_json.specs.declared.error.FieldErrorName.{FieldErrorName}
use Rattle.rb_import_json.specs.declared.error.FieldErrorName.TheVariants.{FrozenClient, UnsupportedClient}
use Rattle.rb_import_json.specs.Values.{number_of}
use Rattle.rb_import_answers.specs.Answers.{Told, commit, validators, judging, stored, transactions, packets, verified, other, told}
use Rattle.rb_import_answers.specs.Clients.{States, states_view}
use Rattle.rb_import_answers.specs.Headers.{Signed, signed_view}
use Rattle.rb_import_answers.specs.Packets.{Search, search_view}
use Rattle.rb_import_answers.specs.Pending.{Pending, commitments, unreceived, acknowledgements, page_view, Page as SequencePage}
use Rattle.rb_import_answers.specs.Validators.{Page, page_view as set_view}
use Rattle.rb_import_answers.specs.declared.client.TendermintClientState.{TendermintClientState}
use Rattle.rb_import_answers.specs.declared.query.OtherQuery.{OtherQuery}
use Rattle.rb_import_answers.specs.declared.status.NodeStatus.{NodeStatus}
use Rattle.rb_want_requests.specs.declared.content.Content.{Content}
use Rattle.rb_want_requests.specs.declared.content.Content.TheVariants as contents

-- what a file holds, of a page or a part with its number by the file's name
pub data FileContent : Type 0 where
  header : Signed → FileContent
  set_page : Option ℕ → Page → FileContent
  client : TendermintClientState → FileContent
  other_client : FileContent
  states : Option ℕ → States → FileContent
  status : NodeStatus → FileContent
  commitment_page : Option ℕ → SequencePage → FileContent
  not_received : Option ℕ → List ℕ → FileContent
  acknowledged : Option ℕ → List ℕ → FileContent
  found : Search → FileContent
  nothing : FileContent

abbrev pub content_view : Content → FileContent
content_view (contents.Commit h) = header (signed_view h)
content_view (contents.Validators number page) = set_page number (set_view page)
content_view (contents.ClientState state) = client state
content_view contents.OtherClient = other_client
content_view (contents.ConsensusStates number page) = states number (states_view page)
content_view (contents.Status s) = status s
content_view (contents.Commitments number page) = commitment_page number (page_view page)
content_view (contents.Unreceived number sequences) = not_received number sequences.items
content_view (contents.Acknowledgements number sequences) = acknowledged number sequences.items
content_view (contents.Search page) = found (search_view page)
content_view contents.Other = nothing

-- ---- the number of a page or part, as the name of its file has it (own: the names of requests)

-- the number behind this front of a name
unfoldable pub number_after : List ℕ → List ℕ → Option ℕ
number_after front name = if starts_with nat_eq name front then number_of (drop (length front) name) else None

-- of the validators of a height
abbrev pub validators_number : ℕ → List ℕ → Option ℕ
validators_number height name = number_after (codes "validators-" ++ (decimal height ++ codes "-")) name

abbrev pub states_number : List ℕ → Option ℕ
states_number name = number_after (codes "consensus_states-") name

-- ---- contents

-- of the answers that aren't read as such only that to `/status` says something
abbrev pub other_content : OtherQuery → FileContent
other_content (OtherQuery.Status (Some s)) = status s
other_content _ = nothing

abbrev pub pending_content : List ℕ → Pending → FileContent
pending_content name (commitments page) = commitment_page (number_after (codes "commitments-") name) page
pending_content name (unreceived sequences) = not_received (number_after (codes "unreceived-") name) sequences
pending_content name (acknowledgements sequences) = acknowledged (number_after (codes "acknowledgements-") name) sequences

-- the content of bytes that tell this, in a file of this name
abbrev pub told_content : List ℕ → Told → FileContent
told_content name (commit signed) = header signed
told_content name (validators page) = set_page (validators_number page.height name) page
told_content name (judging state) = client state
told_content name (stored page) = states (states_number name) page
told_content name (transactions page) = found page
told_content name (packets pending) = pending_content name pending
told_content name (verified verdicts) = nothing
told_content name (other query) = other_content query

-- the content of bytes with this flaw: a client that is frozen, or isn't Tendermint's, or nothing
abbrev pub flawed_content : FieldErrorName → FileContent
flawed_content FrozenClient = other_client
flawed_content UnsupportedClient = other_client
flawed_content _ = nothing

abbrev pub content_by : List ℕ → Result Told FieldError → FileContent
content_by name (Ok t) = told_content name t
content_by name (Err flaw) = flawed_content flaw.name

-- what a file of this name and these bytes holds, of a client's records those of this revision and of later ones
abbrev pub content_in : ℕ → List ℕ → List ℕ → FileContent
content_in since name bytes = content_by name (told since bytes)
