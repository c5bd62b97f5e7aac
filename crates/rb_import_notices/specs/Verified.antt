-- Chains of which some commits have no verdict on their signatures, or none has.
use Rattle.std.specs.Prelude.{◌==◌, ◌&&◌, ℕ, Bool, not, is_some, if◌then◌else◌, Option, Some, None, count_by}
use Rattle.rb_import_check.specs.declared.chain.Commit.{Commit}
use Rattle.rb_import_check.specs.declared.saved.SavedAnswers.{SavedAnswers}
use Rattle.rb_import_check.specs.Verdicts.{has_verdicts}
use Rattle.rb_import_merge.specs.declared.seen.SeenSetup.{SeenSetup}
use Rattle.rb_import_merge.specs.Seen.{answers_at}
use Rattle.rb_import_notices.specs.declared.notice.Notice.{Notice}
use Rattle.rb_import_notices.specs.declared.notice.Notice.TheVariants.{NotVerified, UnverifiedCommits}
use Rattle.rb_import_notices.specs.Headers.{commits_of, lacks_headers}

-- whether a commit has no verdict
abbrev pub is_unverified : Commit → Bool
is_unverified c = not (is_some c.verdict)

-- how many headers of the chain at a place have no verdict on their commits
abbrev pub unverified_at : SeenSetup → ℕ → ℕ
unverified_at seen place = count_by is_unverified (commits_of seen place)

-- a chain whose answers hold verdicts, but none on some of its commits, and how many these are
abbrev pub not_verified : SavedAnswers → SeenSetup → ℕ → Option Notice
not_verified answers seen chain =
    if not (has_verdicts (answers_at answers.chains.items chain)) then None
    else if unverified_at seen chain == 0 then None
    else Some (NotVerified chain (unverified_at seen chain))

-- a chain that has headers, and whose answers hold no verdicts
abbrev pub unverified_commits : SavedAnswers → SeenSetup → ℕ → Option Notice
unverified_commits answers seen chain =
    if not (lacks_headers seen chain) && not (has_verdicts (answers_at answers.chains.items chain)) then Some (UnverifiedCommits chain) else None
