use Rattle.std.proofs.Common.{ℕ}
use Rattle.std.specs.Prelude.{Result, MatchResult}
use Rattle.rb_import_setup.specs.declared.setup.ClientSetup.{ClientSetup}
use Rattle.rb_import_check.specs.declared.client.SeenClient.{SeenClient}
use Rattle.rb_import_check.specs.declared.error.ImportError.{ImportError}
use Rattle.rb_import_merge.specs.Judged.{chain_at}
use Rattle.rb_import_merge.specs.Reasons.{IsOfClientAnswers}
use Rattle.rb_import_merge.specs.Seen.{IsSeenClient, answers_at}
use Rattle.rb_import_merge.proofs.Rooms.{AtEachBefore}
use Rattle.rb_import_merge.proofs.seen.judged_clients.Given as goal

-- each of those so far is judged
abbrev pub invariant-loop-place : goal.invariant-loop-place
invariant-loop-place l =
    AtEachBefore l.place
    (λ (i : ℕ) (x : ClientSetup) (r : Result SeenClient ImportError).
    MatchResult r (IsSeenClient l.setup.chains.items (chain_at l.chains x.tracks) x (answers_at l.answers.clients.items i)) (IsOfClientAnswers l.setup l.answers x (answers_at l.answers.clients.items i)))
    l.setup.clients.items l.clients.items
