use Rattle.std.proofs.Common.{◌≡◌, ◌<◌, All, Err, length, get_or, rules, subst, sym}
use Rattle.std.specs.Prelude.{Any, IfErr}
use Rattle.std.proofs.lemmas.List.{take_all}
use Rattle.std.proofs.lemmas.List.Elements.{All-more}
use Rattle.rb_import_check.specs.declared.chain.Commit.{Commit}
use Rattle.rb_import_check.specs.declared.error.CheckErrorName.{CheckErrorName}
use Rattle.rb_import_check.specs.declared.error.ImportError.{ImportError}
use Rattle.rb_import_check.specs.Chains.{IsOfItsBlock, filed}
use Rattle.rb_import_check.specs.Errors.{IsTold}
use Rattle.rb_import_check.specs.Named.{ShowsHeader}
use Rattle.rb_import_check.proofs.SetReasons.{told_so}
use Rattle.rb_import_check.proofs.chain.judge_blocks.Goals as goal

pub loop-commit-preserved : goal.loop-commit-preserved
loop-commit-preserved c =
    let small : c.loop-commit.commit-index < length c.args.commits.now = search rules in
    let is : c.commit-item.result ≡ get_or c.args.commits.now c.loop-commit.commit-index c.commit-item.result = search rules in
    All-more (IsOfItsBlock) c.args.commits.now c.loop-commit.commit-index c.commit-item.result small c.loop-commit.invariant (subst (IsOfItsBlock) is c.in_ok-judge_block.ensures.block)

pub returns-in_err-judge_block-clause-other : goal.returns-in_err-judge_block-clause-other
returns-in_err-judge_block-clause-other c =
    let small : c.loop-commit.commit-index < length c.args.commits.now = search rules in
    let is : c.commit-item.result ≡ get_or c.args.commits.now c.loop-commit.commit-index c.commit-item.result = search rules in
    let e = c.in_err-judge_block.field-0.0 in
    let told : IsTold CheckErrorName.OtherHeader (Any (λ (x : Commit). IsOfItsBlock x → ⊥) c.args.commits.now) e =
    told_so CheckErrorName.OtherHeader (IsOfItsBlock c.commit-item.result → ⊥) (Any (λ (x : Commit). IsOfItsBlock x → ⊥) c.args.commits.now) e
    (λ w. (c.loop-commit.commit-index, c.commit-item.result, small, sym is, w)) c.in_err-judge_block.ensures.other in
    search rules

pub returns-clause-blocks : goal.returns-clause-blocks
returns-clause-blocks c = subst (All (IsOfItsBlock)) (take_all c.loop-commit.commit-index c.args.commits.now (search rules)) c.loop-commit.invariant

pub returns-in_err-judge_block-clause-named : goal.returns-in_err-judge_block-clause-named
returns-in_err-judge_block-clause-named c =
    let small : c.loop-commit.commit-index < length c.args.commits.now = search rules in
    let is : c.commit-item.result ≡ get_or c.args.commits.now c.loop-commit.commit-index c.commit-item.result = search rules in
    let e = c.in_err-judge_block.field-0.0 in
    let named : Any (λ (x : Commit). ShowsHeader (filed x) e) c.args.commits.now = (c.loop-commit.commit-index, c.commit-item.result, small, sym is, c.in_err-judge_block.ensures.named) in
    let is_err : c.from_residual.result ≡ Err e = search rules in
    subst (λ r. IfErr r (λ (f : ImportError). Any (λ (x : Commit). ShowsHeader (filed x) f) c.args.commits.now)) (sym is_err) named
