-- The root that a proof is of (ICS 23, `Calculate`), by the operations of the two specs.
use Rattle.std.specs.Prelude.{ℕ, List, [], ◌∷◌, ◌++◌}
use Rattle.sha2.specs.Sha256.{sha256}
use Rattle.rb_ics23.specs.Varint.{counted}
use Rattle.rb_ics23.specs.Proof.{Existence, Inner}

-- the key, and the hash of the value, each behind its length (`LeafOp.Apply`)
abbrev pub leaf_hash : List ℕ → List ℕ → List ℕ → List ℕ
leaf_hash prefix key value = sha256 (prefix ++ counted key ++ counted (sha256 value))

-- the child between prefix and suffix (`InnerOp.Apply`)
abbrev pub inner_hash : Inner → List ℕ → List ℕ
inner_hash step child = sha256 (step.prefix ++ child ++ step.suffix)

unfoldable pub hash_above : List ℕ → List Inner → List ℕ
hash_above hash [] = hash
hash_above hash (step ∷ steps) = hash_above (inner_hash step hash) steps

unfoldable pub root : Existence → List ℕ
root p = hash_above (leaf_hash p.leaf.prefix p.key p.value) p.path
