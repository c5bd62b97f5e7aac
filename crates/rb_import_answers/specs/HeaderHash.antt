-- The hash of a header (CometBFT, `Header.Hash`).
use Rattle.std.specs.Prelude.{ℕ, ◌/◌, ◌%◌, ◌^◌, List, [], ◌∷◌, ◌++◌}
use Rattle.rb_merkle.specs.TreeHash.{tree_root}
use Rattle.rb_import_answers.specs.declared.header_fields.BlockId.{BlockId as CodeBlockId}
use Rattle.rb_import_answers.specs.declared.header_fields.BlockHeader.{BlockHeader as CodeBlockHeader}
use Rattle.rb_import_answers.specs.Encoding.{number_field, counted, bytes_field}

-- a block's hash, and how many parts it was sent in, with their hash (CometBFT, `BlockID`)
pub record BlockId : Type 0 where
  pub hash : List ℕ
  pub parts_total : ℕ
  pub parts_hash : List ℕ

-- a header's fields, the time in nanoseconds since 1970
pub record BlockHeader : Type 0 where
  pub block_version : ℕ
  pub app_version : ℕ
  pub chain : List ℕ
  pub height : ℕ
  pub time : ℕ
  pub last_block : BlockId
  pub last_commit_hash : List ℕ
  pub data_hash : List ℕ
  pub validators_hash : List ℕ
  pub next_validators_hash : List ℕ
  pub consensus_hash : List ℕ
  pub app_hash : List ℕ
  pub last_results_hash : List ℕ
  pub evidence_hash : List ℕ
  pub proposer_address : List ℕ

abbrev pub block_id_view : CodeBlockId → BlockId
block_id_view b = record { hash = b.hash.items; parts_total = b.parts_total; parts_hash = b.parts_hash.items }

abbrev pub header_view : CodeBlockHeader → BlockHeader
header_view h = record {
  block_version = h.block_version;
  app_version = h.app_version;
  chain = h.chain;
  height = h.height;
  time = h.time;
  last_block = block_id_view h.last_block;
  last_commit_hash = h.last_commit_hash.items;
  data_hash = h.data_hash.items;
  validators_hash = h.validators_hash;
  next_validators_hash = h.next_validators_hash;
  consensus_hash = h.consensus_hash.items;
  app_hash = h.app_hash.items;
  last_results_hash = h.last_results_hash.items;
  evidence_hash = h.evidence_hash.items;
  proposer_address = h.proposer_address.items;
}

-- the versions of the block protocol and of the application
unfoldable pub version_bytes : BlockHeader → List ℕ
version_bytes h = number_field 0x08 h.block_version ++ number_field 0x10 h.app_version

-- seconds, and nanoseconds beside them
unfoldable pub time_bytes : ℕ → List ℕ
time_bytes time = number_field 0x08 (time / 10 ^ 9) ++ number_field 0x10 (time % 10 ^ 9)

-- the hash, and the parts, which stand there also where they are empty
unfoldable pub block_id_bytes : BlockId → List ℕ
block_id_bytes b = bytes_field 0x0a b.hash ++ counted 0x12 (number_field 0x08 b.parts_total ++ bytes_field 0x12 b.parts_hash)

-- the fourteen fields in their encoding: a text, a number or bytes alone is field 1 of a buffer
abbrev pub encoded : BlockHeader → List (List ℕ)
encoded h =
    version_bytes h ∷ bytes_field 0x0a h.chain ∷ number_field 0x08 h.height ∷ time_bytes h.time ∷ block_id_bytes h.last_block
    ∷ bytes_field 0x0a h.last_commit_hash ∷ bytes_field 0x0a h.data_hash ∷ bytes_field 0x0a h.validators_hash
    ∷ bytes_field 0x0a h.next_validators_hash ∷ bytes_field 0x0a h.consensus_hash ∷ bytes_field 0x0a h.app_hash
    ∷ bytes_field 0x0a h.last_results_hash ∷ bytes_field 0x0a h.evidence_hash ∷ bytes_field 0x0a h.proposer_address ∷ []

-- their tree hash
unfoldable pub header_hash : BlockHeader → List ℕ
header_hash h = tree_root (encoded h)
