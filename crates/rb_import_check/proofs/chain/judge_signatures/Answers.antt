use Rattle.std.proofs.Common.{◌≡◌, ◌<◌, All, Err, length, get_or, rules, subst, sym}
use Rattle.std.specs.Prelude.{Any, IfErr}
use Rattle.std.proofs.lemmas.List.{take_all}
use Rattle.std.proofs.lemmas.List.Elements.{All-more}
use Rattle.rb_import_check.specs.declared.chain.Commit.{Commit}
use Rattle.rb_import_check.specs.declared.error.ImportError.{ImportError}
use Rattle.rb_import_check.specs.Chains.{FitsSet}
use Rattle.rb_import_check.specs.Errors.{IsToldBy}
use Rattle.rb_import_check.specs.Named.{NamesCommit}
use Rattle.rb_import_check.specs.Refusals.{RefusesCommit}
use Rattle.rb_import_check.proofs.SetReasons.{told_more}
use Rattle.rb_import_check.proofs.chain.judge_signatures.Goals as goal

pub loop-commit-preserved : goal.loop-commit-preserved
loop-commit-preserved c =
    let small : c.loop-commit.commit-index < length c.args.commits.now = search rules in
    let is : c.commit-item.result ≡ get_or c.args.commits.now c.loop-commit.commit-index c.commit-item.result = search rules in
    All-more (FitsSet c.args.sets.now.sets.items) c.args.commits.now c.loop-commit.commit-index c.commit-item.result small c.loop-commit.invariant
    (subst (FitsSet c.args.sets.now.sets.items) is c.in_ok-judge_commit.ensures.set)

pub returns-in_err-judge_commit-clause-reason : goal.returns-in_err-judge_commit-clause-reason
returns-in_err-judge_commit-clause-reason c =
    let small : c.loop-commit.commit-index < length c.args.commits.now = search rules in
    let is : c.commit-item.result ≡ get_or c.args.commits.now c.loop-commit.commit-index c.commit-item.result = search rules in
    let e = c.in_err-judge_commit.field-0.0 in
    let sets = c.args.sets.now.sets.items in
    let told : IsToldBy (λ name. Any (RefusesCommit name sets) c.args.commits.now) e =
    told_more (λ name. RefusesCommit name sets c.commit-item.result) (λ name. Any (RefusesCommit name sets) c.args.commits.now) e
    (λ name w. (c.loop-commit.commit-index, c.commit-item.result, small, sym is, w)) c.in_err-judge_commit.ensures.reason in
    search rules

pub returns-clause-sets : goal.returns-clause-sets
returns-clause-sets c =
    subst (All (FitsSet c.args.sets.now.sets.items)) (take_all c.loop-commit.commit-index c.args.commits.now (search rules)) c.loop-commit.invariant

pub returns-in_err-judge_commit-clause-named : goal.returns-in_err-judge_commit-clause-named
returns-in_err-judge_commit-clause-named c =
    let small : c.loop-commit.commit-index < length c.args.commits.now = search rules in
    let is : c.commit-item.result ≡ get_or c.args.commits.now c.loop-commit.commit-index c.commit-item.result = search rules in
    let e = c.in_err-judge_commit.field-0.0 in
    let sets = c.args.sets.now.sets.items in
    let named : Any (λ (x : Commit). NamesCommit sets x e) c.args.commits.now = (c.loop-commit.commit-index, c.commit-item.result, small, sym is, c.in_err-judge_commit.ensures.named) in
    let is_err : c.from_residual.result ≡ Err e = search rules in
    subst (λ r. IfErr r (λ (f : ImportError). Any (λ (x : Commit). NamesCommit sets x f) c.args.commits.now)) (sym is_err) named
