-- The Merkle tree hash of RFC 6962, section 2.1, with SHA-256. Items and hashes are lists of bytes.
use Rattle.std.specs.Prelude.{◌≡◌, ℕ, zero, suc, ◌*◌, ◌^◌, ◌<◌, ◌≤◌, nat_le, if◌then◌else◌, List, [], ◌∷◌, ◌++◌, length, take, drop}
use Rattle.sha2.specs.Sha256.{sha256}

abbrev pub leaf_hash : List ℕ → List ℕ
leaf_hash item = sha256 (0 ∷ item)

abbrev pub node_hash : List ℕ → List ℕ → List ℕ
node_hash left right = sha256 (1 ∷ left ++ right)

-- p is the greatest power of two below n
abbrev pub IsSplit : ℕ → ℕ → Type 0
IsSplit n p = (k : ℕ) × (p ≡ 2 ^ k) × (p < n) × (n ≤ 2 * p)

-- the root of at most one item
abbrev pub small_root : List (List ℕ) → List ℕ
small_root [] = sha256 []
small_root (item ∷ _) = leaf_hash item

-- the root of at most 2 ^ height items: above 2 ^ k items, with k the next lower height, they are
-- split after the first 2 ^ k
unfoldable pub root_within : ℕ → List (List ℕ) → List ℕ
root_within zero items = small_root items
root_within (suc k) items =
    if nat_le (length items) (2 ^ k)
    then root_within k items
    else node_hash (root_within k (take (2 ^ k) items)) (root_within k (drop (2 ^ k) items))

-- the root of any items, since n is at most 2 ^ n
unfoldable pub tree_root : List (List ℕ) → List ℕ
tree_root items = root_within (length items) items

-- the tree hash as the standard states it: of no item, of one, and of more, which are split at the
-- greatest power of two below their number
pub record IsTreeHash (root : List (List ℕ) → List ℕ) : Type 0 where
  pub none : root [] ≡ sha256 []
  pub one : (item : List ℕ) → root (item ∷ []) ≡ leaf_hash item
  pub more : (items : List (List ℕ)) (p : ℕ) → IsSplit (length items) p
      → root items ≡ node_hash (root (take p items)) (root (drop p items))

-- no two functions are tree hashes
abbrev pub TreeHashIsOne : Type 0
TreeHashIsOne =
    (f g : List (List ℕ) → List ℕ) → IsTreeHash f → IsTreeHash g → (items : List (List ℕ)) → f items ≡ g items
