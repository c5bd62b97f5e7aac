use Rattle.std.proofs.Common.{ℕ, List, rules, subst}
use Rattle.rb_import_check.specs.declared.client.Stored.{Stored}
use Rattle.rb_import_check.specs.Clients.{AreStatesOn}
use Rattle.rb_import_merge.specs.Judged.{chain_at}
use Rattle.rb_import_merge.specs.Reasons.{IsOfClientAnswers, IsOfDifference}
use Rattle.rb_import_merge.specs.Seen.{AgreesWithChain, AreRecordsOf}
use Rattle.rb_import_merge.proofs.Judging.{refused_so}
use Rattle.rb_import_merge.proofs.Reasoning.{of_its_answers, of_other_record}
use Rattle.rb_import_merge.proofs.Watched.{of_tracked}
use Rattle.rb_import_merge.proofs.seen.judged_client.Goals as goal

pub returns-clause-seen : goal.returns-clause-seen
returns-clause-seen c =
    let client = c.args.client.now in
    let saved = c.args.saved.now in
    let seen = c.in_ok-seen.seen in
    let Has : List ℕ → Type 0 = λ id. AreStatesOn id saved × AreRecordsOf id saved seen.stored.items in
    let records : AreRecordsOf c.chain_at-tracked.result.now saved seen.stored.items =
    (c.in_ok-seen.ensures.states, c.in_ok-seen.ensures.files, c.in_ok-seen.ensures.rising, c.in_ok-seen.ensures.revision, c.in_ok-seen.ensures.last) in (
      c.in_ok-seen.ensures.judging,
      c.in_ok-seen.ensures.latest,
      of_tracked Has c.args.setup.now.chains.items client.tracks {tracked = c.chain_at-tracked.result.now} (c.in_ok-seen.ensures.state, records) c.chain_at-tracked.ensures,
      subst (AgreesWithChain (chain_at c.args.chains.now client.tracks)) c.as_slice.ensures.value c.in_ok-judge_client.ensures.accord,
      c.in_ok-seen.ensures.answers,
    )

pub returns-in_err-seen-clause-refused : goal.returns-in_err-seen-clause-refused
returns-in_err-seen-clause-refused c =
    let e = c.in_err-seen.field-0.0 in
    let refused : IsOfClientAnswers c.args.setup.now c.args.answers.now c.args.client.now c.args.saved.now e =
    of_its_answers c.args.setup.now c.args.answers.now c.args.client.now c.chain_at-tracked.result.now c.args.saved.now e c.chain_at-tracked.ensures c.in_err-seen.ensures.told c.in_err-seen.ensures.reason c.in_err-seen.ensures.named in
    search rules

pub returns-in_err-judge_client-clause-refused : goal.returns-in_err-judge_client-clause-refused
returns-in_err-judge_client-clause-refused c =
    let e = c.in_err-judge_client.field-0.0 in
    let chain = chain_at c.args.chains.now c.args.client.now.tracks in
    let refused : IsOfClientAnswers c.args.setup.now c.args.answers.now c.args.client.now c.args.saved.now e =
    of_other_record c.args.setup.now c.args.answers.now c.args.client.now c.chain_at-tracked.result.now c.args.saved.now chain c.in_ok-seen.seen.stored.items e c.requires.filed c.in_ok-seen.ensures.files
    c.in_err-judge_client.ensures.told (subst (λ (l : List Stored). IsOfDifference chain l e) c.as_slice.ensures.value c.in_err-judge_client.ensures.other) in
    refused_so (IsOfClientAnswers c.args.setup.now c.args.answers.now c.args.client.now c.args.saved.now) c.from_residual-in_err-judge_client.result e (search rules) refused
