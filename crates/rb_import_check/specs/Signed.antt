-- Which headers enough of their own set has signed (CometBFT light client, `VerifyCommitLight`: more than two thirds of the set's power in votes
-- for the block).
use Rattle.std.specs.Prelude.{◌≡◌, ℕ, List, Bool, true, false, not, ◌&&◌, ◌||◌, Option, Some, None, Any, map, filter, option_map}
use Rattle.std.specs.List.{enumerate_from, zip}
use Rattle.rb_base.specs.Fraction.{Exceeds, two_thirds}
use Rattle.rb_valset.specs.Validator.{Member}
use Rattle.rb_valset.specs.ValidatorSet.{set_hash, total_of}
use Rattle.rb_import_answers.specs.declared.commit.BlockIdFlag.{BlockIdFlag}
use Rattle.rb_import_answers.specs.declared.commit.BlockIdFlag.TheVariants as flags
use Rattle.rb_import_answers.specs.declared.commit.Signature.{Signature}
use Rattle.rb_import_answers.specs.declared.verdicts.CommitVerdict.{CommitVerdict}
use Rattle.rb_import_check.specs.declared.chain.Commit.{Commit}
use Rattle.rb_import_check.specs.declared.sets.SeenSet.{SeenSet}
use Rattle.rb_import_check.specs.declared.signed.Signatures.{Signatures}
use Rattle.rb_import_check.specs.declared.signed.Signatures.TheVariants.{AsGiven, Verified}
use Rattle.rb_import_check.specs.Chains.{HasSet}
use Rattle.rb_import_check.specs.Verdicts.{is_among}

-- whether a vote is for the block
abbrev pub is_for_block : BlockIdFlag → Bool
is_for_block flags.Absent = false
is_for_block flags.Commit = true
is_for_block flags.Nil = false

-- whether a verdict calls the vote at a place bad
abbrev pub is_bad : Option CommitVerdict → ℕ → Bool
is_bad (Some v) place = is_among v.bad.items place
is_bad None place = false

-- whether a verdict calls the vote at a place good: it is neither bad nor unchecked
abbrev pub is_good : Option CommitVerdict → ℕ → Bool
is_good (Some v) place = not (is_among v.bad.items place || is_among v.unchecked.items place)
is_good None place = false

-- whether the verdict on a commit lets the vote at a place count: as answers give the votes, where it isn't bad; of verified votes, where it is good
abbrev pub lets_count : Signatures → Option CommitVerdict → ℕ → Bool
lets_count AsGiven verdict place = not (is_bad verdict place)
lets_count Verified verdict place = is_good verdict place

-- whether the signature at a place counts: it is a vote for the block, and the verdict lets it count
abbrev pub counts : Signatures → Option CommitVerdict → ℕ → Signature → Bool
counts signatures verdict place s = is_for_block s.flag && lets_count signatures verdict place

-- the members of a set whose votes count; the votes stand in set order
abbrev pub voters : Signatures → Option CommitVerdict → List Signature → List Member → List Member
voters signatures verdict votes set =
    map (λ (p : Member × (ℕ × Signature)). p.0)
    (filter (λ (p : Member × (ℕ × Signature)). counts signatures verdict p.1.0 p.1.1) (zip set (enumerate_from 0 votes)))

-- the power of those
unfoldable pub signed_power : Signatures → Option CommitVerdict → List Signature → List Member → ℕ
signed_power signatures verdict votes set = total_of (voters signatures verdict votes set)

-- more than two thirds of the set's power voted for the block of this commit, in votes that count
unfoldable pub IsSignedBy : Signatures → Commit → List Member → Type 0
IsSignedBy signatures c set =
    Exceeds (signed_power signatures (option_map (λ v. v.now) c.verdict) c.header.now.signatures.items set) (total_of set) two_thirds

-- so it is of the set that the header names, which is among these
abbrev pub IsSigned : Signatures → List SeenSet → Commit → Type 0
IsSigned signatures sets c = Any (λ (s : SeenSet). (set_hash s.set ≡ c.header.now.set) × IsSignedBy signatures c s.set) sets

-- the set that the header names is among these, and didn't sign it so
abbrev pub IsUnsigned : Signatures → List SeenSet → Commit → Type 0
IsUnsigned signatures sets c = HasSet sets c × (¬ IsSigned signatures sets c)

-- who signed a header in verified votes alone signed it in the votes as answers give them, too
abbrev pub VerifiedVotesAreGiven : Type 0
VerifiedVotesAreGiven = (sets : List SeenSet) (c : Commit) → IsSigned Verified sets c → IsSigned AsGiven sets c

-- ---- (internal)

-- whether there is a signature at a place, and it counts
abbrev pub counts_at : Signatures → Option CommitVerdict → ℕ → Option Signature → Bool
counts_at signatures verdict place (Some s) = counts signatures verdict place s
counts_at signatures verdict place None = false
