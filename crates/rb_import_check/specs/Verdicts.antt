-- Verdicts on the signatures of a chain's commits.
use Rattle.std.specs.Prelude.{◌≡◌, ◌≢◌, ◌≤◌, ⊤, ℕ, List, [], ◌∷◌, Bool, true, false, Option, Some, None, All, Any, Contains, IsSome, length, option_map, slice_get, ◌==◌}
use Rattle.std.specs.BTreeMap.{BTreeMap, get}
use Rattle.std.specs.Cmp.Lexicographic.{slice_cmp}
use Rattle.std.specs.List.{flat_map, list_any}
use Rattle.std.specs.Ordering.{nat_cmp}
use Rattle.rb_import_answers.specs.declared.answer.NodeAnswer.{NodeAnswer}
use Rattle.rb_import_answers.specs.declared.answer.NodeAnswer.TheVariants as answers
use Rattle.rb_import_answers.specs.declared.verdicts.CommitVerdict.{CommitVerdict}
use Rattle.rb_import_answers.specs.declared.verdicts.Verdicts.{Verdicts}
use Rattle.rb_import_check.specs.declared.saved.Saved.{Saved}

abbrev pub verdicts_in : NodeAnswer → List Verdicts
verdicts_in (answers.Commit header) = []
verdicts_in (answers.Validators page) = []
verdicts_in (answers.ClientState state) = []
verdicts_in (answers.ConsensusStates page) = []
verdicts_in (answers.Transactions page) = []
verdicts_in (answers.Pending p) = []
verdicts_in (answers.Verdicts v) = v ∷ []
verdicts_in (answers.Other query) = []

-- the verdicts that a chain's answers hold
abbrev pub verdicts_of : List Saved → List Verdicts
verdicts_of saved = flat_map (λ s. verdicts_in s.answer) saved

-- one answer at most has verdicts, and they are on this chain
abbrev pub AreVerdictsOn : List ℕ → List Saved → Type 0
AreVerdictsOn id saved = (length (verdicts_of saved) ≤ 1) × All (λ (v : Verdicts). v.chain ≡ id) (verdicts_of saved)

-- the verdicts of the first file that has some; two such files are refused
abbrev pub verdict_list : List Verdicts → List CommitVerdict
verdict_list [] = []
verdict_list (v ∷ others) = v.commits.items

-- a verdict is on another file than that of this SHA-256
unfoldable pub IsOnOther : List ℕ → CommitVerdict → Type 0
IsOnOther digest v = v.digest ≢ digest

-- it is one of these verdicts, on the file of this SHA-256; none where none of them is on it
abbrev pub IsVerdictOn : List CommitVerdict → List ℕ → Option CommitVerdict → Type 0
IsVerdictOn verdicts digest (Some v) = Contains verdicts v × (v.digest ≡ digest)
IsVerdictOn verdicts digest None = All (IsOnOther digest) verdicts

-- (internal) the map gives for the digest of each verdict the place of one of this digest
abbrev pub AreFound : List CommitVerdict → BTreeMap (List ℕ) ℕ → Type 0
AreFound verdicts places =
    ((digest : List ℕ) (i : ℕ) → get (slice_cmp nat_cmp) places digest ≡ Some i → option_map (λ v. v.digest) (slice_get verdicts i) ≡ Some digest)
    × All (λ v. IsSome (get (slice_cmp nat_cmp) places v.digest)) verdicts

-- it tells of so many votes
abbrev pub HasVotes : ℕ → Option CommitVerdict → Type 0
HasVotes count (Some v) = v.votes ≡ count
HasVotes count None = ⊤

-- one of these verdicts is on the file of this SHA-256, and tells of another number of votes
abbrev pub TellsOtherVotes : List CommitVerdict → List ℕ → ℕ → Type 0
TellsOtherVotes verdicts digest count = Any (λ v. (v.digest ≡ digest) × (v.votes ≢ count)) verdicts

abbrev pub is_verdicts : NodeAnswer → Bool
is_verdicts (answers.Commit header) = false
is_verdicts (answers.Validators page) = false
is_verdicts (answers.ClientState state) = false
is_verdicts (answers.ConsensusStates page) = false
is_verdicts (answers.Transactions page) = false
is_verdicts (answers.Pending p) = false
is_verdicts (answers.Verdicts v) = true
is_verdicts (answers.Other query) = false

-- whether a chain's answers hold verdicts
abbrev pub has_verdicts : List Saved → Bool
has_verdicts saved = list_any (λ s. is_verdicts s.answer) saved

-- whether a place is one of these
abbrev pub is_among : List ℕ → ℕ → Bool
is_among places place = list_any (λ other. other == place) places
