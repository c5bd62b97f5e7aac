-- The Merkle proof of a message (ICS 23 in IBC, `MerkleProof`): field 1, once for each commitment proof.
use Rattle.std.specs.Prelude.{ℕ, List, ◌∷◌, ◌++◌, length}
use Rattle.rb_ics23.specs.Varint.{varint}

unfoldable pub proof_field : List ℕ → List ℕ
proof_field proof = 0x0a ∷ varint (length proof) ++ proof

unfoldable pub merkle_proof : List ℕ → List ℕ → List ℕ
merkle_proof proof store = proof_field proof ++ proof_field store
