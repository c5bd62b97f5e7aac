use Rattle.std.proofs.Common.{ℕ, List, rules, sym, subst}
use Rattle.std.specs.Prelude.{Result, MatchResult}
use Rattle.rb_import_setup.specs.declared.setup.ClientSetup.{ClientSetup}
use Rattle.rb_import_check.specs.declared.client.SeenClient.{SeenClient}
use Rattle.rb_import_check.specs.declared.error.ImportError.{ImportError}
use Rattle.rb_import_check.specs.declared.saved.Saved.{Saved}
use Rattle.rb_import_merge.specs.Judged.{chain_at}
use Rattle.rb_import_merge.specs.Reasons.{IsOfClientAnswers}
use Rattle.rb_import_merge.specs.Seen.{IsSeenClient, answers_at}
use Rattle.rb_import_merge.proofs.Judging.{judged}
use Rattle.rb_import_merge.proofs.Rooms.{AtEachBefore, at_all, at_none, at_one_more}
use Rattle.rb_import_merge.proofs.Watched.{client_within}
use Rattle.rb_import_merge.proofs.seen.judged_clients.Goals as goal

pub loop-place-init : goal.loop-place-init
loop-place-init c =
    let Is : ℕ → ClientSetup → Result SeenClient ImportError → Type 0 = λ i x r.
    MatchResult r (IsSeenClient c.args.setup.now.chains.items (chain_at c.args.chains.now x.tracks) x (answers_at c.args.answers.now.clients.items i))
    (IsOfClientAnswers c.args.setup.now c.args.answers.now x (answers_at c.args.answers.now.clients.items i)) in
    subst (AtEachBefore 0 Is c.args.setup.now.clients.items) (sym c.in_ok-clients.ensures.items) (at_none Is c.args.setup.now.clients.items)

pub loop-place-preserved : goal.loop-place-preserved
loop-place-preserved c =
    let Judged : ClientSetup → List Saved → Result SeenClient ImportError → Type 0 = λ x saved r.
    MatchResult r (IsSeenClient c.args.setup.now.chains.items (chain_at c.args.chains.now x.tracks) x saved) (IsOfClientAnswers c.args.setup.now c.args.answers.now x saved) in
    let Is : ℕ → ClientSetup → Result SeenClient ImportError → Type 0 = λ i x r. Judged x (answers_at c.args.answers.now.clients.items i) r in
    let client = c.client-item.result in
    let saved : List Saved = c.answers_at-saved.result.now in
    let its : Judged client saved c.judged_client.result =
    judged (IsSeenClient c.args.setup.now.chains.items (chain_at c.args.chains.now client.tracks) client saved) (IsOfClientAnswers c.args.setup.now c.args.answers.now client saved) c.judged_client.result
    c.judged_client.ensures.seen c.judged_client.ensures.refused in
    at_one_more Is c.args.setup.now.clients.items c.loop-place.place client c.judged_client.result c.loop-place.clients.items _ (search rules) (search rules)
    (subst (λ l. Judged client l c.judged_client.result) c.answers_at-saved.ensures its) c.in_ok-push.ensures.items c.loop-place.invariant

pub judged_client-requires-clause-tracks : goal.judged_client-requires-clause-tracks
judged_client-requires-clause-tracks c = client_within c.args.setup.now c.client-item.result c.loop-place.place (search rules) (search rules)

pub judged_client-requires-clause-filed : goal.judged_client-requires-clause-filed
judged_client-requires-clause-filed c = c.requires c.client-item.result.tracks

pub returns : goal.returns
returns c =
    let Is : ℕ → ClientSetup → Result SeenClient ImportError → Type 0 = λ i x r.
    MatchResult r (IsSeenClient c.args.setup.now.chains.items (chain_at c.args.chains.now x.tracks) x (answers_at c.args.answers.now.clients.items i))
    (IsOfClientAnswers c.args.setup.now c.args.answers.now x (answers_at c.args.answers.now.clients.items i)) in
    at_all Is c.args.setup.now.clients.items c.loop-place.place c.loop-place.clients.items (search rules) c.loop-place.invariant
