-- A verdict that tells of another number of votes.
use Rattle.std.proofs.Common.{ℕ, List, Option, Some, None}
use Rattle.rb_import_answers.specs.declared.verdicts.CommitVerdict.{CommitVerdict}
use Rattle.rb_import_check.specs.Verdicts.{HasVotes, IsVerdictOn, TellsOtherVotes}

pub tells_other : (verdicts : List CommitVerdict) (digest : List ℕ) (count : ℕ) (o : Option CommitVerdict) → IsVerdictOn verdicts digest o → (HasVotes count o → ⊥) → TellsOtherVotes verdicts digest count
tells_other verdicts digest count None on other = absurd (other tt)
tells_other verdicts digest count (Some v) ((i, small, is), same) other = (i, v, small, is, (same, other))
