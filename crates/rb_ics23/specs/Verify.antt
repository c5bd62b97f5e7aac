-- What a proof shows of a root (ICS 23, `VerifyMembership`, `VerifyNonMembership`; ICS 23 in IBC, `MerkleProof`).
use Rattle.std.specs.Prelude.{ℕ, Bool, false, ◌&&◌, not, ◌==◌, List, [], length, Option, Some, None, bytes_eq}
use Rattle.std.specs.Ordering.{nat_cmp, is_lt}
use Rattle.std.specs.Cmp.Lexicographic.{slice_cmp}
use Rattle.rb_ics23.specs.declared.proof.ProofSpec.{ProofSpec}
use Rattle.rb_ics23.specs.declared.proof.ProofSpec.TheVariants.{Iavl, Tendermint}
use Rattle.rb_ics23.specs.Proof.{Existence, NonExistence}
use Rattle.rb_ics23.specs.Root.{root}
use Rattle.rb_ics23.specs.Fit.{fits}
use Rattle.rb_ics23.specs.Neighbours.{is_left_most, is_right_most, are_neighbours}

abbrev pub is_some_bytes : List ℕ → Bool
is_some_bytes bytes = not (length bytes == 0)

-- the proof's key has the proof's value under this root
unfoldable pub shows : ProofSpec → List ℕ → Existence → Bool
shows spec hash p = is_some_bytes p.key && is_some_bytes p.value && fits spec p && bytes_eq (root p) hash

unfoldable pub is_member : ProofSpec → List ℕ → List ℕ → List ℕ → Existence → Bool
is_member spec hash key value p = bytes_eq p.key key && bytes_eq p.value value && shows spec hash p

abbrev pub is_below : List ℕ → List ℕ → Bool
is_below a b = is_lt (slice_cmp nat_cmp a b)

-- the key's place is right of the last leaf, left of the first, or between neighbours
unfoldable pub is_between : ProofSpec → List ℕ → List ℕ → Option Existence → Option Existence → Bool
is_between spec hash key None None = false
is_between spec hash key (Some l) None = shows spec hash l && is_below l.key key && is_right_most spec l.path
is_between spec hash key None (Some r) = shows spec hash r && is_below key r.key && is_left_most spec r.path
is_between spec hash key (Some l) (Some r) =
    shows spec hash l && shows spec hash r && is_below l.key key && is_below key r.key && are_neighbours spec l.path r.path

abbrev pub is_absent : ProofSpec → List ℕ → List ℕ → NonExistence → Bool
is_absent spec hash key p = is_between spec hash key p.left p.right

-- the store's root is the value of the store's name in the map of stores, under the app hash
abbrev pub is_store : List ℕ → List ℕ → List ℕ → Existence → Bool
is_store app_hash name store_root p = is_member Tendermint app_hash name store_root p

-- first the store, then the map of stores
abbrev pub is_member_in_store : List ℕ → List ℕ → List ℕ → List ℕ → Existence → Existence → Bool
is_member_in_store app_hash name key value p store =
    is_member Iavl (root p) key value p && is_store app_hash name (root p) store

-- the root of the left neighbour, or else of the right one (`CommitmentProof.Calculate`)
abbrev pub root_between : Option Existence → Option Existence → List ℕ
root_between (Some l) right = root l
root_between None (Some r) = root r
root_between None None = []

abbrev pub is_absent_in_store : List ℕ → List ℕ → List ℕ → NonExistence → Existence → Bool
is_absent_in_store app_hash name key p store =
    is_absent Iavl (root_between p.left p.right) key p && is_store app_hash name (root_between p.left p.right) store
