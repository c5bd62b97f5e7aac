-- What the bytes of two commitment proofs show (ICS 23 in IBC, `MerkleProof.VerifyMembership`, `VerifyNonMembership`).
use Rattle.std.specs.Prelude.{ℕ, Bool, false, List, Option, Some, None}
use Rattle.rb_ics23.specs.Verify.{is_member_in_store, is_absent_in_store}
use Rattle.rb_ics23.specs.Ops.{◌>>=◌}
use Rattle.rb_ics23.specs.Read.{existence, non_existence}

-- bytes that are no proof show nothing
abbrev pub or_false : Option Bool → Bool
or_false None = false
or_false (Some b) = b

unfoldable pub shows_member : List ℕ → List ℕ → List ℕ → List ℕ → List ℕ → List ℕ → Bool
shows_member app_hash name key value of_key of_store = or_false (do
  p ← existence of_key
  store ← existence of_store
  Some (is_member_in_store app_hash name key value p store))

unfoldable pub shows_absent : List ℕ → List ℕ → List ℕ → List ℕ → List ℕ → Bool
shows_absent app_hash name key of_key of_store = or_false (do
  p ← non_existence of_key
  store ← existence of_store
  Some (is_absent_in_store app_hash name key p store))
