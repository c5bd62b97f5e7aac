use Rattle.std.proofs.Common.{◌≡◌, ℕ, List}
use Rattle.std.specs.Prelude.{Result, MatchResult}
use Rattle.rb_import_check.specs.declared.error.ImportError.{ImportError}
use Rattle.rb_import_merge.specs.Judged.{Fitting}
use Rattle.rb_import_merge.specs.Reasons.{IsOfChainAnswers}
use Rattle.rb_import_merge.specs.Seen.{IsSeenChain, answers_at, surplus_of}
use Rattle.rb_import_merge.proofs.Rooms.{AtEachBefore}
use Rattle.rb_import_merge.proofs.seen.judged_chains.Given as goal

-- each of those so far is judged
abbrev pub invariant-loop-place : goal.invariant-loop-place
invariant-loop-place l =
    AtEachBefore l.place
    (λ (i : ℕ) (id : List ℕ) (r : Result Fitting ImportError).
    MatchResult r (λ f. IsSeenChain id l.signatures (answers_at l.answers.chains.items i) f.0 × (f.1 ≡ surplus_of (answers_at l.answers.chains.items i) f.0))
    (IsOfChainAnswers id (answers_at l.answers.chains.items i)))
    l.setup.chains.items l.chains.items
