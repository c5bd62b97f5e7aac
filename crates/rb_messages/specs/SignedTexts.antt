-- A signed header as JSON, as protojson writes it; none of its values has a character that JSON escapes.
use Rattle.std.specs.Prelude.{ℕ, List, [], ◌∷◌, codes, map, if◌then◌else◌, Bool, true, false, Option, Some, None}
use Rattle.std.specs.List.{list_any}
use Rattle.std.specs.Fmt.{decimal}
use Rattle.std.specs.Str.{bytes_eq}
use Rattle.base64.specs.Engines.{standard}
use Rattle.base64.specs.GeneralPurpose.{encode_of}
use Rattle.rb_script_text.specs.Json.{Json, array, number, object, string, ◌is◌}
use Rattle.rb_script_text.specs.Moments.{moment_text}
use Rattle.rb_import_answers.specs.HeaderHash.{BlockId, BlockHeader}
use Rattle.rb_import_answers.specs.declared.commit.Cast.{Cast}
use Rattle.rb_import_answers.specs.declared.commit.CommitVote.{CommitVote}
use Rattle.rb_import_answers.specs.declared.commit.CommitVote.TheVariants as kinds
use Rattle.rb_import_answers.specs.Headers.{Signed}
use Rattle.rb_step.specs.Sent.{SentVotes}

-- a number of 64 bits: a string
abbrev pub quoted : ℕ → Json
quoted n = string (decimal n)

-- bytes: base64
abbrev pub bytes_json : List ℕ → Json
bytes_json bytes = string (encode_of standard bytes)

-- a time: RFC 3339, in UTC
abbrev pub time_json : ℕ → Json
time_json time = string (moment_text time)

-- ---- a header (CometBFT, `Header`)

-- how many parts a block has, and their hash (CometBFT, `PartSetHeader`)
unfoldable pub parts_json : ℕ → List ℕ → Json
parts_json total hash = object (codes "total" is number total ∷ codes "hash" is bytes_json hash ∷ [])

-- the identifier of a block (CometBFT, `BlockID`)
unfoldable pub id_json : BlockId → Json
id_json b = object (codes "hash" is bytes_json b.hash ∷ codes "part_set_header" is parts_json b.parts_total b.parts_hash ∷ [])

unfoldable pub versions_json : BlockHeader → Json
versions_json f = object (codes "block" is quoted f.block_version ∷ codes "app" is quoted f.app_version ∷ [])

-- the members behind the versions, from the last ones on
unfoldable pub last_hashes : BlockHeader → List (List ℕ × Json)
last_hashes f =
    codes "last_results_hash" is bytes_json f.last_results_hash ∷ codes "evidence_hash" is bytes_json f.evidence_hash
    ∷ codes "proposer_address" is bytes_json f.proposer_address ∷ []

unfoldable pub state_hashes : BlockHeader → List (List ℕ × Json)
state_hashes f = codes "consensus_hash" is bytes_json f.consensus_hash ∷ codes "app_hash" is bytes_json f.app_hash ∷ last_hashes f

unfoldable pub set_hashes : BlockHeader → List (List ℕ × Json)
set_hashes f =
    codes "validators_hash" is bytes_json f.validators_hash ∷ codes "next_validators_hash" is bytes_json f.next_validators_hash ∷ state_hashes f

unfoldable pub hashes : BlockHeader → List (List ℕ × Json)
hashes f = codes "last_commit_hash" is bytes_json f.last_commit_hash ∷ codes "data_hash" is bytes_json f.data_hash ∷ set_hashes f

unfoldable pub last_block_members : BlockHeader → List (List ℕ × Json)
last_block_members f = codes "last_block_id" is id_json f.last_block ∷ hashes f

unfoldable pub header_members : BlockHeader → List (List ℕ × Json)
header_members f =
    codes "chain_id" is string f.chain ∷ codes "height" is quoted f.height ∷ codes "time" is time_json f.time ∷ last_block_members f

unfoldable pub header_json : BlockHeader → Json
header_json f = object (codes "version" is versions_json f ∷ header_members f)

-- ---- a commit (CometBFT, `Commit`), with the votes that an update carries

abbrev pub is_sender : SentVotes → List ℕ → Bool
is_sender votes address = list_any (λ a. bytes_eq a address) votes.senders

-- whether a validator's part stands in the commit: each does where the update carries all votes, else the commit votes on the planner's list
abbrev pub is_carried : Option SentVotes → CommitVote → Bool
is_carried None v = true
is_carried (Some votes) kinds.Absent = false
is_carried (Some votes) (kinds.Commit c) = is_sender votes c.address
is_carried (Some votes) (kinds.Nil c) = false

-- who signed, when, and the signature
abbrev pub signed_members : Cast → List (List ℕ × Json)
signed_members c =
    codes "validator_address" is bytes_json c.address ∷ codes "timestamp" is time_json c.time ∷ codes "signature" is bytes_json c.signature ∷ []

-- a vote with the name of its flag
unfoldable pub cast_json : List ℕ → Cast → Json
cast_json flag c = object (codes "block_id_flag" is string flag ∷ signed_members c)

-- no address, no time (Go's zero time), no signature
unfoldable pub unsigned_members : List (List ℕ × Json)
unsigned_members =
    codes "validator_address" is string [] ∷ codes "timestamp" is string (codes "0001-01-01T00:00:00Z") ∷ codes "signature" is string [] ∷ []

-- a vote that isn't there
unfoldable pub absent_json : Json
absent_json = object (codes "block_id_flag" is string (codes "BLOCK_ID_FLAG_ABSENT") ∷ unsigned_members)

abbrev pub entry_json : CommitVote → Json
entry_json kinds.Absent = absent_json
entry_json (kinds.Commit c) = cast_json (codes "BLOCK_ID_FLAG_COMMIT") c
entry_json (kinds.Nil c) = cast_json (codes "BLOCK_ID_FLAG_NIL") c

-- a part that isn't carried is absent
unfoldable pub carried_json : Option SentVotes → CommitVote → Json
carried_json votes v = if is_carried votes v then entry_json v else absent_json

-- the round, what was voted for, and the votes
unfoldable pub round_members : Option SentVotes → Signed → List (List ℕ × Json)
round_members votes s =
    codes "round" is number s.round ∷ codes "block_id" is id_json s.block ∷ codes "signatures" is array (map (carried_json votes) s.votes) ∷ []

-- the commit has its header's height
unfoldable pub commit_json : Option SentVotes → Signed → Json
commit_json votes s = object (codes "height" is quoted s.header.height ∷ round_members votes s)

-- ---- both (CometBFT, `SignedHeader`)

unfoldable pub signed_header_json : Option SentVotes → Signed → Json
signed_header_json votes s = object (codes "header" is header_json s.fields ∷ codes "commit" is commit_json votes s ∷ [])
