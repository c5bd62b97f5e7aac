use Rattle.std.proofs.Common.{◌≡◌, ℕ, List, rules, sym, subst}
use Rattle.std.specs.Prelude.{Result, MatchResult}
use Rattle.rb_import_check.specs.declared.error.ImportError.{ImportError}
use Rattle.rb_import_check.specs.declared.saved.Saved.{Saved}
use Rattle.rb_import_merge.specs.Judged.{Fitting}
use Rattle.rb_import_merge.specs.Reasons.{IsOfChainAnswers}
use Rattle.rb_import_merge.specs.Seen.{IsSeenChain, answers_at, surplus_of}
use Rattle.rb_import_merge.proofs.Judging.{judged_both}
use Rattle.rb_import_merge.proofs.Rooms.{AtEachBefore, at_all, at_none, at_one_more}
use Rattle.rb_import_merge.proofs.seen.judged_chains.Goals as goal

pub loop-place-init : goal.loop-place-init
loop-place-init c =
    let Is : ℕ → List ℕ → Result Fitting ImportError → Type 0 = λ i id r.
    MatchResult r (λ f. IsSeenChain id c.args.signatures (answers_at c.args.answers.now.chains.items i) f.0 × (f.1 ≡ surplus_of (answers_at c.args.answers.now.chains.items i) f.0))
    (IsOfChainAnswers id (answers_at c.args.answers.now.chains.items i)) in
    subst (AtEachBefore 0 Is c.args.setup.now.chains.items) (sym c.in_ok-chains.ensures.items) (at_none Is c.args.setup.now.chains.items)

pub loop-place-preserved : goal.loop-place-preserved
loop-place-preserved c =
    let Judged : List ℕ → List Saved → Result Fitting ImportError → Type 0 = λ id saved r.
    MatchResult r (λ f. IsSeenChain id c.args.signatures saved f.0 × (f.1 ≡ surplus_of saved f.0)) (IsOfChainAnswers id saved) in
    let Is : ℕ → List ℕ → Result Fitting ImportError → Type 0 = λ i id r. Judged id (answers_at c.args.answers.now.chains.items i) r in
    let same : c.as_str.result.now ≡ c.id-item.result = search rules in
    let id : List ℕ = c.as_str.result.now in
    let saved : List Saved = c.answers_at-saved.result.now in
    let its : Judged id saved c.fitting_chain.result =
    judged_both (λ (f : Fitting). IsSeenChain id c.args.signatures saved f.0) (λ (f : Fitting). f.1 ≡ surplus_of saved f.0) (IsOfChainAnswers id saved) c.fitting_chain.result
    c.fitting_chain.ensures.seen c.fitting_chain.ensures.surplus c.fitting_chain.ensures.refused in
    at_one_more Is c.args.setup.now.chains.items c.loop-place.place c.id-item.result c.fitting_chain.result c.loop-place.chains.items _ (search rules) (search rules)
    (subst (λ l. Judged c.id-item.result l c.fitting_chain.result) c.answers_at-saved.ensures (subst (λ x. Judged x saved c.fitting_chain.result) same its)) c.in_ok-push.ensures.items c.loop-place.invariant

pub returns : goal.returns
returns c =
    let Is : ℕ → List ℕ → Result Fitting ImportError → Type 0 = λ i id r.
    MatchResult r (λ f. IsSeenChain id c.args.signatures (answers_at c.args.answers.now.chains.items i) f.0 × (f.1 ≡ surplus_of (answers_at c.args.answers.now.chains.items i) f.0))
    (IsOfChainAnswers id (answers_at c.args.answers.now.chains.items i)) in
    at_all Is c.args.setup.now.chains.items c.loop-place.place c.loop-place.chains.items (search rules) c.loop-place.invariant
