-- The answer of CometBFT's `/commit`: the signed header in its result.
use Rattle.std.specs.Prelude.{ℕ, List, [], map, Bool, true, Option, Some, None, option_and_then, Result, Ok, ⊤, codes, ◌==◌, nat_le}
use Rattle.serde_json.specs.Find.{get, as_bool}
use Rattle.rb_import_answers.specs.declared.commit.BlockIdFlag.TheVariants.{Absent, Commit, Nil}
use Rattle.rb_import_answers.specs.declared.commit.BlockIdFlag.{BlockIdFlag}
use Rattle.rb_import_answers.specs.declared.commit.Block.{Block}
use Rattle.rb_import_answers.specs.declared.commit.Cast.{Cast}
use Rattle.rb_import_answers.specs.declared.commit.CommitVote.{CommitVote}
use Rattle.rb_import_answers.specs.declared.commit.CommitVote.TheVariants as kinds
use Rattle.rb_import_answers.specs.declared.commit.Signature.{Signature}
use Rattle.rb_import_answers.specs.declared.commit.SignedHeader.{SignedHeader}
use Rattle.rb_import_json.specs.declared.error.FieldError.{FieldError}
use Rattle.rb_import_json.specs.declared.error.FieldErrorName.TheVariants.{OtherHeight, WrongType}
use Rattle.rb_import_json.specs.declared.field_path.Key.{Key}
use Rattle.rb_import_json.specs.declared.field_path.Segment.{Segment}
use Rattle.rb_import_json.specs.FieldErrors.{◌>>=◌, must}
use Rattle.rb_import_json.specs.Fields.{Object, flaw_at, object, inner, items, number_or_zero, count, height, chain, time, hex, bytes, base64, each}
use Rattle.rb_import_answers.specs.HeaderHash.{BlockId, BlockHeader, header_hash, header_view as fields_view}
use Rattle.rb_import_answers.specs.Roots.{root_of}
use Rattle.rb_import_answers.specs.Votes.{flag}

-- the versions of the block protocol and of the application, each 0 where it isn't there
unfoldable pub versions : Object → Result (ℕ × ℕ) FieldError
versions o = do
  version ← object Key.Version Segment.Version o
  block ← number_or_zero Key.Block version
  app ← number_or_zero Key.App version
  Ok (block, app)

unfoldable pub last_block : Object → Result BlockId FieldError
last_block o = do
  id ← object Key.LastBlockId Segment.LastBlockId o
  parts ← object Key.Parts Segment.Parts id
  hash ← bytes Key.Hash id
  total ← count Key.Total parts
  parts_hash ← bytes Key.Hash parts
  Ok (record { hash = hash; parts_total = total; parts_hash = parts_hash })

-- all fields of a header (CometBFT, `Header`)
unfoldable pub fields : Object → Result BlockHeader FieldError
fields o = do
  id ← chain Key.ChainId o
  at ← height Key.Height o
  moment ← time Key.Time o
  app_hash ← bytes Key.AppHash o
  set ← hex 32 Key.ValidatorsHash o
  next ← hex 32 Key.NextValidatorsHash o
  version ← versions o
  last ← last_block o
  last_commit ← bytes Key.LastCommitHash o
  data_hash ← bytes Key.DataHash o
  consensus ← bytes Key.ConsensusHash o
  results ← bytes Key.LastResultsHash o
  evidence ← bytes Key.EvidenceHash o
  proposer ← bytes Key.ProposerAddress o
  Ok (record {
    block_version = version.0;
    app_version = version.1;
    chain = id;
    height = at;
    time = moment;
    last_block = last;
    last_commit_hash = last_commit;
    data_hash = data_hash;
    validators_hash = set;
    next_validators_hash = next;
    consensus_hash = consensus;
    app_hash = app_hash;
    last_results_hash = results;
    evidence_hash = evidence;
    proposer_address = proposer;
  })

-- what a script needs of a header: its chain, height and time, the root of its state (`app_hash`), and the hashes of its own set and the
-- next; and its hash
pub record Header : Type 0 where
  pub chain : List ℕ
  pub height : ℕ
  pub time : ℕ
  pub root : List ℕ
  pub set : List ℕ
  pub next : List ℕ
  pub hash : List ℕ

abbrev pub header_view : SignedHeader → Header
header_view h = record { chain = h.chain; height = h.height; time = h.time; root = h.root; set = h.set; next = h.next; hash = h.hash }

abbrev pub header_of : BlockHeader → Header
header_of f = record {
  chain = f.chain;
  height = f.height;
  time = f.time;
  root = root_of f.app_hash;
  set = f.validators_hash;
  next = f.next_validators_hash;
  hash = header_hash f;
}

abbrev pub block_view : Block → BlockId
block_view b = record { hash = b.hash; parts_total = b.parts_total; parts_hash = b.parts_hash }

-- the block that a commit is for, whose hashes have 32 bytes
unfoldable pub block : Object → Result BlockId FieldError
block commit = do
  id ← object Key.BlockId Segment.BlockId commit
  hash ← hex 32 Key.Hash id
  parts ← inner Key.Parts id
  total ← count Key.Total parts
  parts_hash ← hex 32 Key.Hash parts
  Ok (record { hash = hash; parts_total = total; parts_hash = parts_hash })

-- the round of a commit, 0 where it isn't there; at most 2^31 - 1 (CometBFT, `Commit.Round`)
unfoldable pub round : Object → Result ℕ FieldError
round commit = do
  n ← count Key.Round commit
  _ ← must (flaw_at commit Key.Round WrongType) (nat_le n 2147483647)
  Ok n

-- a vote: whose it is, when it was given, and its signature: 64 bytes, as of ed25519 and of secp256k1
unfoldable pub cast : Object → Result Cast FieldError
cast o = do
  address ← hex 20 Key.ValidatorAddress o
  moment ← time Key.Timestamp o
  signature ← base64 64 Key.Signature o
  Ok (record { address = address; time = moment; signature = signature })

abbrev pub vote_by : BlockIdFlag → Object → Result CommitVote FieldError
vote_by Absent o = Ok kinds.Absent
vote_by Commit o = cast o >>= λ c. Ok (kinds.Commit c)
vote_by Nil o = cast o >>= λ c. Ok (kinds.Nil c)

-- an entry of a commit's signatures (CometBFT, `CommitSig`): one that is absent is nobody's
unfoldable pub vote : Object → Result CommitVote FieldError
vote o = do
  f ← flag o
  vote_by f o

-- what a script needs of a vote
abbrev pub signature_of : CommitVote → Signature
signature_of kinds.Absent = record { flag = Absent; address = None }
signature_of (kinds.Commit c) = record { flag = Commit; address = Some c.address }
signature_of (kinds.Nil c) = record { flag = Nil; address = Some c.address }

abbrev pub or_true : Option Bool → Bool
or_true (Some b) = b
or_true None = true

-- whether a commit is canonical, the one that the next block has: it is, unless the node says that it isn't (CometBFT, `ResultCommit`)
unfoldable pub canonical : Object → Bool
canonical result = or_true (option_and_then as_bool (get (codes "canonical") result.value))

-- a header with its commit (CometBFT, `SignedHeader`): what a script needs of the header, its fields, and the address of its proposer, which has
-- 20 bytes; the commit's round, its block, what a script needs of its votes, and these, in order, and whether it is canonical
pub record Signed : Type 0 where
  pub header : Header
  pub fields : BlockHeader
  pub proposer : List ℕ
  pub round : ℕ
  pub block : BlockId
  pub signatures : List Signature
  pub votes : List CommitVote
  pub is_canonical : Bool

abbrev pub signed_view : SignedHeader → Signed
signed_view h = record {
  header = header_view h;
  fields = fields_view h.fields;
  proposer = h.proposer;
  round = h.round;
  block = record { hash = h.block; parts_total = h.parts_total; parts_hash = h.parts_hash };
  signatures = h.signatures.items;
  votes = h.votes.items;
  is_canonical = h.is_canonical;
}

-- a header without the votes, of which what a script needs stays
abbrev pub unvoted : Signed → Signed
unvoted s = record {
  header = s.header;
  fields = s.fields;
  proposer = s.proposer;
  round = s.round;
  block = s.block;
  signatures = s.signatures;
  votes = [];
  is_canonical = s.is_canonical;
}

-- the commit has to be of the header's height
unfoldable pub of_height : ℕ → Object → Result ⊤ FieldError
of_height wanted commit = do
  n ← height Key.Height commit
  must (flaw_at commit Key.Height OtherHeight) (n == wanted)

unfoldable pub signed : Object → Result Signed FieldError
signed result = do
  both ← object Key.SignedHeader Segment.SignedHeader result
  head ← object Key.Header Segment.Header both
  commit ← object Key.Commit Segment.Commit both
  entries ← items Key.Signatures commit
  votes ← each vote Segment.Signatures [] entries
  voted ← block commit
  turn ← round commit
  f ← fields head
  proposer ← hex 20 Key.ProposerAddress head
  _ ← of_height f.height commit
  Ok (record {
    header = header_of f;
    fields = f;
    proposer = proposer;
    round = turn;
    block = voted;
    signatures = map signature_of votes;
    votes = votes;
    is_canonical = canonical result;
  })
