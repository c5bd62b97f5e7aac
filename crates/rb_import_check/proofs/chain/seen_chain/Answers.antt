use Rattle.std.proofs.Common.{All, List, ◌++◌, map, rules, subst}
use Rattle.std.specs.Prelude.{Any}
use Rattle.std.specs.List.Sorted.{IsPermutation, IsStrictlyIncreasing}
use Rattle.std.proofs.lemmas.List.Sorted.{IsPermutation-map, IsPermutation-trans}
use Rattle.rb_import_check.specs.declared.chain.Commit.{Commit}
use Rattle.rb_import_check.specs.declared.error.CheckErrorName.{CheckErrorName}
use Rattle.rb_import_check.specs.Chains.{HasItsValidators, IsJudged, IsOfChain, IsOfItsBlock, filed, headers_of}
use Rattle.rb_import_check.specs.Clients.{Falls}
use Rattle.rb_import_check.specs.Errors.{IsTold, IsToldBy}
use Rattle.rb_import_check.specs.Named.{NamesCommit, NamesFall, NamesOf, NamesOtherHeader, NamesSomePages, ShowsHeader}
use Rattle.rb_import_check.specs.Refusals.{HasReasonOf, RefusesCommit}
use Rattle.rb_import_check.proofs.ChainReasons.{one_each, tells_block, tells_chain, tells_twice}
use Rattle.rb_import_check.proofs.Naming.{names_block, names_chain, names_pages, names_set, names_twice}
use Rattle.rb_import_check.proofs.Parting.{in_first, left_out}
use Rattle.rb_import_check.proofs.SetReasons.{RefusesSome, header_of, tells_pages, tells_set}
use Rattle.rb_import_check.proofs.chain.seen_chain.Goals as goal

pub returns-in_err-judge_chains-clause-reason : goal.returns-in_err-judge_chains-clause-reason
returns-in_err-judge_chains-clause-reason c =
    let e = c.in_err-judge_chains.field-0.0 in
    let told : IsTold CheckErrorName.OtherChain (Any (λ x. ¬ IsOfChain c.args.id.now x) c.in_ok-commits.commits.items) e =
    subst (λ (l : List Commit). IsTold CheckErrorName.OtherChain (Any (λ x. ¬ IsOfChain c.args.id.now x) l) e) c.as_slice.ensures.value c.in_err-judge_chains.ensures.other in
    let reason : HasReasonOf c.args.id.now c.args.answers.now e =
    tells_chain c.args.id.now c.args.answers.now c.in_ok-commits.commits.items e c.in_ok-commits.ensures.headers told in
    search rules

pub returns-in_err-judge_blocks-clause-reason : goal.returns-in_err-judge_blocks-clause-reason
returns-in_err-judge_blocks-clause-reason c =
    let e = c.in_err-judge_blocks.field-0.0 in
    let told : IsTold CheckErrorName.OtherHeader (Any (λ x. ¬ IsOfItsBlock x) c.in_ok-commits.commits.items) e =
    subst (λ (l : List Commit). IsTold CheckErrorName.OtherHeader (Any (λ x. ¬ IsOfItsBlock x) l) e) c.as_slice-2.ensures.value c.in_err-judge_blocks.ensures.other in
    let reason : HasReasonOf c.args.id.now c.args.answers.now e =
    tells_block c.args.id.now c.args.answers.now c.in_ok-commits.commits.items e c.in_ok-commits.ensures.headers told in
    search rules

pub returns-in_err-judge_heights-clause-reason : goal.returns-in_err-judge_heights-clause-reason
returns-in_err-judge_heights-clause-reason c =
    let e = c.in_err-judge_heights.field-0.0 in
    let told : IsTold CheckErrorName.TwoAnswers (Falls (map (λ (x : Commit). x.header.now.height) c.in_ok-commits.commits.items)) e =
    subst (λ (l : List Commit). IsTold CheckErrorName.TwoAnswers (Falls (map (λ (x : Commit). x.header.now.height) l)) e) c.as_slice-3.ensures.value c.in_err-judge_heights.ensures.falling in
    let reason : HasReasonOf c.args.id.now c.args.answers.now e =
    tells_twice c.args.id.now c.args.answers.now c.in_ok-commits.commits.items e c.in_ok-commits.ensures.headers c.in_ok-commits.ensures.order told in
    search rules

pub returns-in_err-sets-clause-reason : goal.returns-in_err-sets-clause-reason
returns-in_err-sets-clause-reason c =
    let e = c.in_err-sets.field-0.0 in
    let told : IsToldBy (RefusesSome (map header_of c.in_ok-commits.commits.items) c.args.answers.now) e =
    subst (λ (l : List Commit). IsToldBy (RefusesSome (map header_of l) c.args.answers.now) e) c.as_slice-4.ensures.value c.in_err-sets.ensures.reason in
    let reason : HasReasonOf c.args.id.now c.args.answers.now e =
    tells_pages c.args.id.now c.args.answers.now c.in_ok-commits.commits.items c.in_ok-commits.ensures.headers e told in
    search rules

pub returns-in_err-judge_signatures-clause-reason : goal.returns-in_err-judge_signatures-clause-reason
returns-in_err-judge_signatures-clause-reason c =
    let e = c.in_err-judge_signatures.field-0.0 in
    let told : IsToldBy (λ name. Any (RefusesCommit name c.in_ok-sets.sets.sets.items) c.in_ok-commits.commits.items) e =
    subst (λ (l : List Commit). IsToldBy (λ name. Any (RefusesCommit name c.in_ok-sets.sets.sets.items) l) e) c.as_slice-5.ensures.value c.in_err-judge_signatures.ensures.reason in
    let reason : HasReasonOf c.args.id.now c.args.answers.now e =
    tells_set c.args.id.now c.args.answers.now c.in_ok-commits.commits.items c.in_ok-sets.sets.sets.items c.in_ok-commits.ensures.headers c.in_ok-sets.ensures.sets e told in
    search rules

pub returns-in_err-judge_chains-clause-named : goal.returns-in_err-judge_chains-clause-named
returns-in_err-judge_chains-clause-named c =
    let e = c.in_err-judge_chains.field-0.0 in
    let all : List Commit = c.in_ok-commits.commits.items in
    let which : Any (λ x. NamesOtherHeader c.args.id.now (filed x) e) all =
    subst (λ (l : List Commit). Any (λ x. NamesOtherHeader c.args.id.now (filed x) e) l) c.as_slice.ensures.value c.in_err-judge_chains.ensures.named in
    let named : NamesOf c.args.id.now c.args.answers.now e = names_chain c.args.id.now c.args.answers.now all _ e c.in_ok-commits.ensures.files c.in_err-judge_chains.ensures.other which in
    search rules

pub returns-in_err-judge_blocks-clause-named : goal.returns-in_err-judge_blocks-clause-named
returns-in_err-judge_blocks-clause-named c =
    let e = c.in_err-judge_blocks.field-0.0 in
    let all : List Commit = c.in_ok-commits.commits.items in
    let which : Any (λ x. ShowsHeader (filed x) e) all =
    subst (λ (l : List Commit). Any (λ x. ShowsHeader (filed x) e) l) c.as_slice-2.ensures.value c.in_err-judge_blocks.ensures.named in
    let named : NamesOf c.args.id.now c.args.answers.now e = names_block c.args.id.now c.args.answers.now all _ e c.in_ok-commits.ensures.files c.in_err-judge_blocks.ensures.other which in
    search rules

pub returns-in_err-judge_heights-clause-named : goal.returns-in_err-judge_heights-clause-named
returns-in_err-judge_heights-clause-named c =
    let e = c.in_err-judge_heights.field-0.0 in
    let all : List Commit = c.in_ok-commits.commits.items in
    let which : NamesFall (λ (x : Commit). x.header.now.height) (λ (x : Commit). x.file.now) all e =
    subst (λ (l : List Commit). NamesFall (λ (x : Commit). x.header.now.height) (λ (x : Commit). x.file.now) l e) c.as_slice-3.ensures.value c.in_err-judge_heights.ensures.named in
    let named : NamesOf c.args.id.now c.args.answers.now e =
    names_twice c.args.id.now c.args.answers.now all _ e c.in_ok-commits.ensures.files c.in_ok-commits.ensures.order c.in_err-judge_heights.ensures.falling which in
    search rules

pub returns-in_err-sets-clause-named : goal.returns-in_err-sets-clause-named
returns-in_err-sets-clause-named c =
    let e = c.in_err-sets.field-0.0 in
    let all : List Commit = c.in_ok-commits.commits.items in
    let which : NamesSomePages (map filed all) c.args.answers.now e =
    subst (λ (l : List Commit). NamesSomePages (map filed l) c.args.answers.now e) c.as_slice-4.ensures.value c.in_err-sets.ensures.named in
    let named : NamesOf c.args.id.now c.args.answers.now e = names_pages c.args.id.now c.args.answers.now all c.in_ok-commits.ensures.files _ e c.in_err-sets.ensures.reason which in
    search rules

pub returns-in_err-judge_signatures-clause-named : goal.returns-in_err-judge_signatures-clause-named
returns-in_err-judge_signatures-clause-named c =
    let e = c.in_err-judge_signatures.field-0.0 in
    let all : List Commit = c.in_ok-commits.commits.items in
    let which : Any (λ x. NamesCommit c.in_ok-sets.sets.sets.items x e) all =
    subst (λ (l : List Commit). Any (λ x. NamesCommit c.in_ok-sets.sets.sets.items x e) l) c.as_slice-5.ensures.value c.in_err-judge_signatures.ensures.named in
    let named : NamesOf c.args.id.now c.args.answers.now e =
    names_set c.args.id.now c.args.answers.now all c.in_ok-commits.ensures.files c.in_ok-sets.sets.sets.items c.in_ok-commits.ensures.headers c.in_ok-sets.ensures.sets e which in
    search rules

-- ---- the headers, parted

pub returns-clause-headers : goal.returns-clause-headers
returns-clause-headers c =
    let parts = c.in_ok-parts.parts in
    let joined : List Commit = parts.commits.items ++ parts.bare.items ++ parts.unsigned.items in
    let same : IsPermutation c.in_ok-commits.commits.items joined = subst (λ (l : List Commit). IsPermutation l joined) c.as_slice-6.ensures.value c.in_ok-parts.ensures.same in
    IsPermutation-trans _ _ _ c.in_ok-commits.ensures.headers (IsPermutation-map (λ (x : Commit). x.header.now) _ _ same)

pub returns-clause-files : goal.returns-clause-files
returns-clause-files c =
    let parts = c.in_ok-parts.parts in
    let joined : List Commit = parts.commits.items ++ parts.bare.items ++ parts.unsigned.items in
    let same : IsPermutation c.in_ok-commits.commits.items joined = subst (λ (l : List Commit). IsPermutation l joined) c.as_slice-6.ensures.value c.in_ok-parts.ensures.same in
    IsPermutation-trans _ _ _ c.in_ok-commits.ensures.files (IsPermutation-map filed _ _ same)

pub returns-clause-heights : goal.returns-clause-heights
returns-clause-heights c =
    let rises : IsStrictlyIncreasing (map (λ (x : Commit). x.header.now.height) c.in_ok-commits.commits.items) =
    subst (λ (l : List Commit). IsStrictlyIncreasing (map (λ (x : Commit). x.header.now.height) l)) c.as_slice-3.ensures.value c.in_ok-judge_heights.ensures.rising in
    one_each (headers_of c.args.answers.now) c.in_ok-commits.commits.items c.in_ok-commits.ensures.headers rises

pub returns-clause-verdicts : goal.returns-clause-verdicts
returns-clause-verdicts c =
    let all = c.in_ok-commits.commits.items in
    let parts = c.in_ok-parts.parts in
    let joined : List Commit = parts.commits.items ++ parts.bare.items ++ parts.unsigned.items in
    let same : IsPermutation all joined = subst (λ (l : List Commit). IsPermutation l joined) c.as_slice-6.ensures.value c.in_ok-parts.ensures.same in
    in_first all parts.commits.items parts.bare.items parts.unsigned.items same (IsJudged c.args.answers.now) c.in_ok-commits.ensures.verdicts

pub returns-clause-chain : goal.returns-clause-chain
returns-clause-chain c =
    let all = c.in_ok-commits.commits.items in
    let parts = c.in_ok-parts.parts in
    let joined : List Commit = parts.commits.items ++ parts.bare.items ++ parts.unsigned.items in
    let same : IsPermutation all joined = subst (λ (l : List Commit). IsPermutation l joined) c.as_slice-6.ensures.value c.in_ok-parts.ensures.same in
    let each : All (IsOfChain c.args.id.now) all = subst (All (IsOfChain c.args.id.now)) c.as_slice.ensures.value c.in_ok-judge_chains.ensures.chain in
    in_first all parts.commits.items parts.bare.items parts.unsigned.items same (IsOfChain c.args.id.now) each

pub returns-clause-blocks : goal.returns-clause-blocks
returns-clause-blocks c =
    let all = c.in_ok-commits.commits.items in
    let parts = c.in_ok-parts.parts in
    let joined : List Commit = parts.commits.items ++ parts.bare.items ++ parts.unsigned.items in
    let same : IsPermutation all joined = subst (λ (l : List Commit). IsPermutation l joined) c.as_slice-6.ensures.value c.in_ok-parts.ensures.same in
    let each : All IsOfItsBlock all = subst (All IsOfItsBlock) c.as_slice-2.ensures.value c.in_ok-judge_blocks.ensures.blocks in
    in_first all parts.commits.items parts.bare.items parts.unsigned.items same IsOfItsBlock each

pub returns-clause-validators : goal.returns-clause-validators
returns-clause-validators c =
    let all = c.in_ok-commits.commits.items in
    let parts = c.in_ok-parts.parts in
    let joined : List Commit = parts.commits.items ++ parts.bare.items ++ parts.unsigned.items in
    let same : IsPermutation all joined = subst (λ (l : List Commit). IsPermutation l joined) c.as_slice-6.ensures.value c.in_ok-parts.ensures.same in
    let each : All (HasItsValidators c.args.answers.now) all = subst (All (HasItsValidators c.args.answers.now)) c.as_slice-4.ensures.value c.in_ok-sets.ensures.validators in
    in_first all parts.commits.items parts.bare.items parts.unsigned.items same (HasItsValidators c.args.answers.now) each

pub returns-clause-left_out : goal.returns-clause-left_out
returns-clause-left_out c =
    let all = c.in_ok-commits.commits.items in
    let parts = c.in_ok-parts.parts in
    let joined : List Commit = parts.commits.items ++ parts.bare.items ++ parts.unsigned.items in
    let same : IsPermutation all joined = subst (λ (l : List Commit). IsPermutation l joined) c.as_slice-6.ensures.value c.in_ok-parts.ensures.same in
    left_out all parts.commits.items parts.bare.items parts.unsigned.items same c.args.id.now c.args.answers.now c.in_ok-commits.ensures.verdicts
    (subst (All (IsOfChain c.args.id.now)) c.as_slice.ensures.value c.in_ok-judge_chains.ensures.chain)
    (subst (All IsOfItsBlock) c.as_slice-2.ensures.value c.in_ok-judge_blocks.ensures.blocks)
    (subst (All (HasItsValidators c.args.answers.now)) c.as_slice-4.ensures.value c.in_ok-sets.ensures.validators)
