use Rattle.std.proofs.Common.{ℕ}
use Rattle.std.specs.Prelude.{Result, MatchResult}
use Rattle.rb_import_setup.specs.declared.setup.PathSetup.{PathSetup}
use Rattle.rb_import_check.specs.declared.error.ImportError.{ImportError}
use Rattle.rb_import_merge.specs.declared.path.SeenPath.{SeenPath}
use Rattle.rb_import_merge.specs.Reasons.{IsOfPathAnswers}
use Rattle.rb_import_merge.specs.Seen.{IsSeenPath, answers_at}
use Rattle.rb_import_merge.proofs.Rooms.{AtEachBefore}
use Rattle.rb_import_merge.proofs.seen.judged_paths.Given as goal

-- each of those so far is judged
abbrev pub invariant-loop-place : goal.invariant-loop-place
invariant-loop-place l =
    AtEachBefore l.place
    (λ (i : ℕ) (x : PathSetup) (r : Result SeenPath ImportError).
    MatchResult r (IsSeenPath l.setup.chains.items x (answers_at l.answers.paths.items i)) (IsOfPathAnswers x (answers_at l.answers.paths.items i)))
    l.setup.paths.items l.paths.items
