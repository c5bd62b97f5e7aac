-- The answer of CometBFT's `/abci_query` on a key of a store (`ResponseQuery`, `ProofOps`), with the proofs of ICS 23 that the Cosmos SDK makes.
use Rattle.std.specs.Prelude.{ℕ, List, [], length, nat_lt, if◌then◌else◌, Option, Some, None, option_and_then, unwrap_or, codes}
use Rattle.serde_json.specs.Data.{Data}
use Rattle.serde_json.specs.Find.{at, get, as_str}
use Rattle.rb_packets.specs.declared.answer.StoreAnswer.{StoreAnswer as CodeAnswer}
use Rattle.rb_packets.specs.Json.{base64_bytes, json}
use Rattle.rb_packets.specs.Steps.{◌>>=◌}

-- what a store has at a key, the proof of it in the store, and that of the store in the map of stores
pub record StoreAnswer : Type 0 where
  pub value : List ℕ
  pub proof : List ℕ
  pub store : List ℕ

abbrev pub answer_view : CodeAnswer → StoreAnswer
answer_view a = record { value = a.value.items; proof = a.proof.items; store = a.store.items }

abbrev pub of_shape : Option Data → Data → Option Data
of_shape (Some result) d = get (codes "response") result
of_shape None d = get (codes "response") d

-- CometBFT's answers stand in a member `result` (JSON-RPC 2.0), or bare
unfoldable pub response_in : Data → Option Data
response_in d = of_shape (get (codes "result") d) d

-- a text in base64; null or none where nothing is stored
unfoldable pub value_text : Data → List ℕ
value_text response = unwrap_or (option_and_then as_str (get (codes "value") response)) []

abbrev pub named_proofs : Option Data → Option Data → Option Data
named_proofs (Some proofs) other = get (codes "ops") proofs
named_proofs None other = option_and_then (get (codes "ops")) other

-- by the name of protojson, or by that of the field
unfoldable pub proofs_in : Data → Option Data
proofs_in response = named_proofs (get (codes "proofOps") response) (get (codes "proof_ops") response)

unfoldable pub data_text : ℕ → Data → Option (List ℕ)
data_text place proofs = at place proofs >>= λ proof. get (codes "data") proof >>= as_str

unfoldable pub data_at : ℕ → Data → Option (List ℕ)
data_at place proofs = data_text place proofs >>= base64_bytes

unfoldable pub store_answer_in : Data → Option StoreAnswer
store_answer_in d = do
  response ← response_in d
  value ← base64_bytes (value_text response)
  proofs ← proofs_in response
  proof ← data_at 0 proofs
  store ← data_at 1 proofs
  Some (record { value = value; proof = proof; store = store })

-- how many bytes an answer may have (own choice): the longest proofs have some 40,000
abbrev pub max_bytes : ℕ
max_bytes = 1048576

unfoldable pub store_answer : List ℕ → Option StoreAnswer
store_answer bytes = if nat_lt max_bytes (length bytes) then None else (json bytes >>= store_answer_in)
