use Rattle.std.proofs.Common.{◌≡◌, ◌<◌, ◌++◌, List, [], ◌∷◌, All, Some, length, false, get_or, arith, rules, ap, refl, subst, sym, ◌∙◌}
use Rattle.std.specs.Prelude.{option_map, option_to_list}
use Rattle.std.proofs.lemmas.List.Elements.{All-push}
use Rattle.std.proofs.lemmas.Grind.{common_steps}
use Rattle.rb_import_answers.specs.declared.verdicts.Verdicts.{Verdicts}
use Rattle.rb_import_check.specs.declared.error.CheckErrorName.{CheckErrorName}
use Rattle.rb_import_check.specs.Chains.{IsJudgedBy, headers_in}
use Rattle.rb_import_check.specs.Errors.{IsTold}
use Rattle.rb_import_check.specs.Named.{NamesOf}
use Rattle.rb_import_check.specs.Refusals.{HasReasonOf, is_of_chain}
use Rattle.rb_import_check.specs.Verdicts.{TellsOtherVotes, verdict_list, verdicts_of}
use Rattle.rb_import_check.proofs.ChainReasons.{is_elsewhere, tells_votes}
use Rattle.rb_import_check.proofs.Naming.{names_votes}
use Rattle.rb_import_check.proofs.Sorting.{of_chain_more, taking}
use Rattle.rb_import_check.proofs.chain.all_commits.Goals.{in-Commit+in_ok-commit-in-Commit+in_ok-push-in-Commit, in-Validators-1, in-Verdicts-1, in-Other-1}
use Rattle.rb_import_check.proofs.chain.all_commits.Goals as goal

pub loop-saved-preserved : goal.loop-saved-preserved
loop-saved-preserved c =
    let small : c.loop-saved.saved-index < length c.args.answers.now = search rules in
    let is : c.saved-item.result ≡ get_or c.args.answers.now c.loop-saved.saved-index c.saved-item.result = search rules in
    let those : List Verdicts = option_to_list (option_map (λ v. v.now) c.in_ok-index.index.verdicts) in
    elim c.match-saved.branch [
      | in-Commit+in_ok-commit-in-Commit+in_ok-push-in-Commit w ↦ record {
        answers = of_chain_more c.args.answers.now c.loop-saved.saved-index c.saved-item.result small is c.loop-saved.invariant.answers (grind (arith, common_steps));
        headers = search (rules, taking);
        files = search (rules, taking);
        verdicts = (let items : c.match-saved.commits.items ≡ c.loop-saved.commits.items ++ w.in_ok-commit-in-Commit.commit ∷ [] = search rules in subst (All (IsJudgedBy those)) (sym items) (All-push (IsJudgedBy those) c.loop-saved.commits.items w.in_ok-commit-in-Commit.commit c.loop-saved.invariant.verdicts w.in_ok-commit-in-Commit.ensures.verdict));
      }
      | in-Validators-1 w ↦ record {
        answers = of_chain_more c.args.answers.now c.loop-saved.saved-index c.saved-item.result small is c.loop-saved.invariant.answers (grind (arith, common_steps));
        headers = search (rules, taking);
        files = search (rules, taking);
        verdicts = search (rules, taking);
      }
      | in-Verdicts-1 w ↦ record {
        answers = of_chain_more c.args.answers.now c.loop-saved.saved-index c.saved-item.result small is c.loop-saved.invariant.answers (grind (arith, common_steps));
        headers = search (rules, taking);
        files = search (rules, taking);
        verdicts = search (rules, taking);
      }
      | in-Other-1 w ↦ record {
        answers = of_chain_more c.args.answers.now c.loop-saved.saved-index c.saved-item.result small is c.loop-saved.invariant.answers (grind (arith, common_steps));
        headers = search (rules, taking);
        files = search (rules, taking);
        verdicts = search (rules, taking);
      }
    ]

pub returns-clause-verdicts : goal.returns-clause-verdicts
returns-clause-verdicts c =
    subst (λ verdicts. All (IsJudgedBy verdicts) c.loop-saved.commits.items) (ap option_to_list c.in_ok-index.ensures ∙ c.in_ok-verdicts.ensures.verdicts) c.loop-saved.invariant.verdicts

pub returns-in_err-commit-in-Commit-clause-reason : goal.returns-in_err-commit-in-Commit-clause-reason
returns-in_err-commit-in-Commit-clause-reason c =
    let small : c.loop-saved.saved-index < length c.args.answers.now = search rules in
    let is : c.saved-item.result ≡ get_or c.args.answers.now c.loop-saved.saved-index c.saved-item.result = search rules in
    let e = c.in_err-commit-in-Commit.field-0.0 in
    let told : IsTold CheckErrorName.OtherVerdict (TellsOtherVotes (verdict_list (verdicts_of c.args.answers.now)) c.saved-item.result.digest (length c.in-Commit.header.signatures.items)) e =
    subst (λ v. IsTold CheckErrorName.OtherVerdict (TellsOtherVotes (verdict_list v) c.saved-item.result.digest (length c.in-Commit.header.signatures.items)) e) (ap option_to_list c.in_ok-index.ensures ∙ c.in_ok-verdicts.ensures.verdicts) c.in_err-commit-in-Commit.ensures.other in
    let reason : HasReasonOf c.args.id.now c.args.answers.now e =
    tells_votes c.args.id.now c.args.answers.now c.loop-saved.saved-index c.saved-item.result c.in-Commit.header e small is (ap headers_in c.in-Commit.is) told in
    search rules

pub returns-in_default-clause-reason : goal.returns-in_default-clause-reason
returns-in_default-clause-reason c =
    let small : c.loop-saved.saved-index < length c.args.answers.now = search rules in
    let is : c.saved-item.result ≡ get_or c.args.answers.now c.loop-saved.saved-index c.saved-item.result = search rules in
    let other : is_of_chain c.saved-item.result.answer ≡ false =
    is_elsewhere c.saved-item.result.answer (λ header e. grind (arith, common_steps)) (λ page e. grind (arith, common_steps)) (λ v e. grind (arith, common_steps)) (λ query e. grind (arith, common_steps)) in
    subst (HasReasonOf c.args.id.now c.args.answers.now) (sym c.in_file.ensures) (c.loop-saved.saved-index, c.saved-item.result, small, sym is, other)

pub returns-in_err-commit-in-Commit-clause-named : goal.returns-in_err-commit-in-Commit-clause-named
returns-in_err-commit-in-Commit-clause-named c =
    let small : c.loop-saved.saved-index < length c.args.answers.now = search rules in
    let is : c.saved-item.result ≡ get_or c.args.answers.now c.loop-saved.saved-index c.saved-item.result = search rules in
    let e = c.in_err-commit-in-Commit.field-0.0 in
    let told : IsTold CheckErrorName.OtherVerdict (TellsOtherVotes (verdict_list (verdicts_of c.args.answers.now)) c.saved-item.result.digest (length c.in-Commit.header.signatures.items)) e =
    subst (λ v. IsTold CheckErrorName.OtherVerdict (TellsOtherVotes (verdict_list v) c.saved-item.result.digest (length c.in-Commit.header.signatures.items)) e) (ap option_to_list c.in_ok-index.ensures ∙ c.in_ok-verdicts.ensures.verdicts) c.in_err-commit-in-Commit.ensures.other in
    let named : NamesOf c.args.id.now c.args.answers.now e =
    names_votes c.args.id.now c.args.answers.now c.loop-saved.saved-index c.saved-item.result c.in-Commit.header e small is (ap headers_in c.in-Commit.is) told c.in_err-commit-in-Commit.ensures.named in
    search rules

pub returns-in_default-clause-named : goal.returns-in_default-clause-named
returns-in_default-clause-named c =
    let small : c.loop-saved.saved-index < length c.args.answers.now = search rules in
    let is : c.saved-item.result ≡ get_or c.args.answers.now c.loop-saved.saved-index c.saved-item.result = search rules in
    let other : is_of_chain c.saved-item.result.answer ≡ false =
    is_elsewhere c.saved-item.result.answer (λ header e. grind (arith, common_steps)) (λ page e. grind (arith, common_steps)) (λ v e. grind (arith, common_steps)) (λ query e. grind (arith, common_steps)) in
    subst (NamesOf c.args.id.now c.args.answers.now) (sym c.in_file.ensures) (c.loop-saved.saved-index, c.saved-item.result, small, sym is, (other, refl, (ap Some c.as_str-file.ensures.value, refl)))
