-- Which operations a spec admits (ICS 23, `CheckAgainstSpec`).
use Rattle.std.specs.Prelude.{ℕ, ◌+◌, ◌%◌, Bool, true, false, ◌&&◌, ◌||◌, not, ◌==◌, nat_le, List, [], ◌∷◌, length, Option, Some, None, option_and_then, if◌then◌else◌}
use Rattle.rb_ics23.specs.declared.proof.HashOp.{HashOp}
use Rattle.rb_ics23.specs.declared.proof.HashOp.TheVariants.{NoHash, Sha256}
use Rattle.rb_ics23.specs.declared.proof.LengthOp.{LengthOp}
use Rattle.rb_ics23.specs.declared.proof.LengthOp.TheVariants.{VarProto}
use Rattle.rb_ics23.specs.declared.proof.ProofSpec.{ProofSpec}
use Rattle.rb_ics23.specs.declared.proof.ProofSpec.TheVariants.{Iavl, Tendermint}
use Rattle.rb_ics23.specs.Varint.{natural_at}
use Rattle.rb_ics23.specs.Proof.{Leaf, Inner, Existence}

-- the bytes of a child; in an IAVL tree a length stands before its hash (`child_size`)
abbrev pub child_size : ProofSpec → ℕ
child_size Iavl = 33
child_size Tendermint = 32

-- the least and the most bytes before the first child (`min_prefix_length`, `max_prefix_length`)
abbrev pub least_prefix : ProofSpec → ℕ
least_prefix Iavl = 4
least_prefix Tendermint = 1

abbrev pub most_prefix : ProofSpec → ℕ
most_prefix Iavl = 12
most_prefix Tendermint = 1

-- the longest path (ICS 23 for Go, from 0.11 on, where a spec has no `max_depth`)
abbrev pub most_steps : ℕ
most_steps = 128

abbrev pub is_no_hash : HashOp → Bool
is_no_hash NoHash = true
is_no_hash _ = false

abbrev pub is_sha256 : HashOp → Bool
is_sha256 Sha256 = true
is_sha256 _ = false

abbrev pub is_var_proto : LengthOp → Bool
is_var_proto VarProto = true
is_var_proto _ = false

abbrev pub begins_with : ℕ → List ℕ → Bool
begins_with byte [] = false
begins_with byte (b ∷ bytes) = b == byte

-- what is behind the height, the size and the version of an IAVL node, none below 0, and the height no lower than the layer
unfoldable pub behind_version : ℕ → List ℕ → Option (List ℕ)
behind_version layer bytes =
    option_and_then (λ height.
    option_and_then (λ size.
    option_and_then (λ version. if nat_le layer height.0 then Some version.1 else None)
    (natural_at size.1)) (natural_at height.1)) (natural_at bytes)

-- a leaf's prefix ends behind the version
abbrev pub ends_leaf : Option (List ℕ) → Bool
ends_leaf None = false
ends_leaf (Some rest) = length rest == 0

-- in an inner node the length of the child follows, or all of a child and the length of the other
abbrev pub ends_inner : Option (List ℕ) → Bool
ends_inner None = false
ends_inner (Some rest) = length rest == 1 || length rest == 34

-- an IAVL leaf is in layer 0 (`validateIavlOps`)
abbrev pub is_leaf_prefix : ProofSpec → List ℕ → Bool
is_leaf_prefix Iavl prefix = ends_leaf (behind_version 0 prefix)
is_leaf_prefix Tendermint prefix = true

abbrev pub is_leaf : ProofSpec → Leaf → Bool
is_leaf spec leaf =
    is_sha256 leaf.hash && is_no_hash leaf.prehash_key && is_sha256 leaf.prehash_value && is_var_proto leaf.length
    && begins_with 0 leaf.prefix && is_leaf_prefix spec leaf.prefix

-- a Tendermint node begins with 1, which stands alone where a child follows (`validateIavlOps`, `validateTendermintOps`)
abbrev pub is_inner_prefix : ProofSpec → ℕ → Inner → Bool
is_inner_prefix Iavl layer step = ends_inner (behind_version layer step.prefix)
is_inner_prefix Tendermint layer step = begins_with 1 step.prefix && (length step.suffix == 0 || length step.prefix == 1)

-- the prefix has room for a child, and the suffix is whole children
abbrev pub has_sizes : ProofSpec → Inner → Bool
has_sizes spec step =
    nat_le (least_prefix spec) (length step.prefix) && nat_le (length step.prefix) (most_prefix spec + child_size spec)
    && (length step.suffix % child_size spec == 0)

-- no inner node can be read as a leaf
abbrev pub is_inner : ProofSpec → ℕ → Inner → Bool
is_inner spec layer step =
    is_sha256 step.hash && is_inner_prefix spec layer step && not (begins_with 0 step.prefix) && has_sizes spec step

-- the steps above a layer
unfoldable pub are_inner : ProofSpec → ℕ → List Inner → Bool
are_inner spec layer [] = true
are_inner spec layer (step ∷ steps) = is_inner spec layer step && are_inner spec (layer + 1) steps

unfoldable pub fits : ProofSpec → Existence → Bool
fits spec p = is_leaf spec p.leaf && nat_le (length p.path) most_steps && are_inner spec 1 p.path
