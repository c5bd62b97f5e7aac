-- How much of a set stands behind a header (CometBFT light client, VerifyCommitLightTrusting).
use Rattle.std.specs.Prelude.{ℕ, Bool, List, map, filter}
use Rattle.std.specs.List.{list_any, zip}
use Rattle.rb_valset.specs.Validator.{Member, address_of, has_address}
use Rattle.rb_valset.specs.ValidatorSet.{total_of}
use Rattle.rb_book.specs.Header.{Header, is_commit}

-- the members of a header's own set that voted to commit; its votes stand in the order of that set
abbrev pub commit_voters : List Member → Header → List Member
commit_voters own h = map (λ p. p.0) (filter (λ p. is_commit p.1) (zip own h.votes))

-- whether a member's address is that of one of the voters
abbrev pub is_among : List Member → Member → Bool
is_among voters m = list_any (has_address (address_of m.key)) voters

-- the power of those members of a trusted set whose address is that of a commit voter of the header
unfoldable pub signed_power : List Member → List Member → Header → ℕ
signed_power trusted own h = total_of (filter (is_among (commit_voters own h)) trusted)
