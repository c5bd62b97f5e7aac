use Rattle.std.proofs.Common.{ℕ, List, rules, sym, subst, All}
use Rattle.std.specs.Prelude.{Result, MatchResult}
use Rattle.rb_import_setup.specs.declared.setup.PathSetup.{PathSetup}
use Rattle.rb_import_check.specs.declared.error.ImportError.{ImportError}
use Rattle.rb_import_check.specs.declared.saved.Saved.{Saved}
use Rattle.rb_import_merge.specs.declared.path.SeenPath.{SeenPath}
use Rattle.rb_import_merge.specs.Reasons.{IsOfPathAnswers}
use Rattle.rb_import_merge.specs.Seen.{IsSeenPath, answers_at}
use Rattle.rb_import_merge.proofs.Judging.{judged_path}
use Rattle.rb_import_merge.proofs.Rooms.{AtEachBefore, at_all, at_none, at_one_more}
use Rattle.rb_import_merge.proofs.Watched.{path_within}
use Rattle.rb_import_merge.proofs.seen.judged_paths.Goals as goal

pub loop-place-init : goal.loop-place-init
loop-place-init c =
    let Is : ℕ → PathSetup → Result SeenPath ImportError → Type 0 = λ i x r.
    MatchResult r (IsSeenPath c.args.setup.now.chains.items x (answers_at c.args.answers.now.paths.items i)) (IsOfPathAnswers x (answers_at c.args.answers.now.paths.items i)) in
    subst (AtEachBefore 0 Is c.args.setup.now.paths.items) (sym c.in_ok-paths.ensures.items) (at_none Is c.args.setup.now.paths.items)

pub loop-place-preserved : goal.loop-place-preserved
loop-place-preserved c =
    let Judged : PathSetup → List Saved → Result SeenPath ImportError → Type 0 = λ x saved r. MatchResult r (IsSeenPath c.args.setup.now.chains.items x saved) (IsOfPathAnswers x saved) in
    let Is : ℕ → PathSetup → Result SeenPath ImportError → Type 0 = λ i x r. Judged x (answers_at c.args.answers.now.paths.items i) r in
    let path = c.path-item.result in
    let saved : List Saved = c.answers_at-saved.result.now in
    let s = c.seen_path.ensures in
    let its : Judged path saved c.seen_path.result =
    judged_path c.args.setup.now.chains.items path saved c.chain_at-dest.result.now c.seen_path.result c.chain_at-dest.ensures
    s.events s.files s.expiry s.before s.pending s.order s.source s.left_out s.surplus s.timed_out s.answers s.whole s.told s.reason s.named in
    at_one_more Is c.args.setup.now.paths.items c.loop-place.place path c.seen_path.result c.loop-place.paths.items _ (search rules) (search rules)
    (subst (λ l. Judged path l c.seen_path.result) c.answers_at-saved.ensures its) c.in_ok-push.ensures.items c.loop-place.invariant

pub chain_at-dest-requires : goal.chain_at-dest-requires
chain_at-dest-requires c = path_within c.args.setup.now c.path-item.result c.loop-place.place (search rules) (search rules)

pub returns : goal.returns
returns c =
    let Is : ℕ → PathSetup → Result SeenPath ImportError → Type 0 = λ i x r.
    MatchResult r (IsSeenPath c.args.setup.now.chains.items x (answers_at c.args.answers.now.paths.items i)) (IsOfPathAnswers x (answers_at c.args.answers.now.paths.items i)) in
    at_all Is c.args.setup.now.paths.items c.loop-place.place c.loop-place.paths.items (search rules) c.loop-place.invariant
