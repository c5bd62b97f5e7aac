use Rattle.std.proofs.Common.{◌≡◌, ℕ, List, [], rules, subst, sym, All}
use Rattle.std.specs.Prelude.{Result}
use Rattle.std.specs.List.{flat_map}
use Rattle.rb_import_check.specs.declared.error.CheckError.{CheckError}
use Rattle.rb_import_check.specs.declared.error.ImportError.{ImportError}
use Rattle.rb_import_check.specs.declared.error.ImportError.TheVariants as errors
use Rattle.rb_import_check.specs.Errors.{IsTooBig}
use Rattle.rb_import_merge.specs.Errors.{IsToldIn, OfEach}
use Rattle.rb_import_merge.specs.Judged.{AreJudgedClients, Fitting, IsFiledAt, problems_in}
use Rattle.rb_import_merge.specs.Reasons.{HasReasonIn, IsOfAnswers}
use Rattle.rb_import_merge.specs.Room.{AtEachPlace, FitBooks}
use Rattle.rb_import_merge.specs.Sets.{AreKeptSets}
use Rattle.rb_import_merge.proofs.Judging.{all_reasons, all_seen, filed_at, none_of_three, of_these, refused_so}
use Rattle.rb_import_merge.proofs.Reasoning.{not_too_big}
use Rattle.rb_import_merge.proofs.Told.{told_in}
use Rattle.rb_import_merge.proofs.seen.seen_in.Goals as goal

pub judged_clients-requires : goal.judged_clients-requires
judged_clients-requires c =
    subst (λ (l : List (Result Fitting ImportError)). (place : ℕ) → IsFiledAt c.args.answers.now l place) (sym c.as_slice.ensures.value)
    (filed_at c.args.setup.now c.args.signatures c.args.answers.now c.in_ok-by_chain.by_chain.items c.in_ok-by_chain.ensures)

pub returns-clause-seen : goal.returns-clause-seen
returns-clause-seen c =
    let setup = c.args.setup.now in
    let answers = c.args.answers.now in
    let clients = c.in_ok-clients.clients.items in
    let records = c.in_ok-records.records.items in
    let none : (flat_map problems_in c.in_ok-by_chain.by_chain.items ≡ []) × (flat_map problems_in c.in_ok-by_client.by_client.items ≡ []) × (flat_map problems_in c.in_ok-by_path.by_path.items ≡ []) =
    none_of_three c.new-problems.result.items c.sound.new.problems.items c.sound-2.new.problems.items c.sound-3.new.problems.items _ _ _
    c.in_ok-fitting.ensures.problems c.in_ok-clients.ensures.problems c.in_ok-paths.ensures.problems c.in_ok-refuse.ensures.none in
    all_seen setup c.args.signatures answers _ c.in_ok-fitting.fitting.items c.in_ok-by_chain.by_chain.items c.in_ok-by_client.by_client.items c.in_ok-by_path.by_path.items
    c.in_ok-by_chain.ensures (subst (λ l. AreJudgedClients setup answers l c.in_ok-by_client.by_client.items) c.as_slice.ensures.value c.in_ok-by_client.ensures) c.in_ok-by_path.ensures
    (c.in_ok-fitting.ensures.all none.0) (c.in_ok-clients.ensures.all none.1) (c.in_ok-paths.ensures.all none.2) c.in_ok-parts.ensures.chains c.in_ok-parts.ensures.surplus
    (subst (λ l. FitBooks setup l clients records) c.as_slice-2.ensures.value (subst (λ l. FitBooks setup c.as_slice-2.result.now l records) c.as_slice-3.ensures.value c.in_ok-records.ensures))
    (subst (λ l. AtEachPlace (AreKeptSets setup records) l c.in_ok-sets.sets.items) c.as_slice-4.ensures.value
    (subst (λ l. AtEachPlace (AreKeptSets setup l) c.as_slice-4.result.now c.in_ok-sets.sets.items) c.as_slice-5.ensures.value c.in_ok-sets.ensures))

each : (c : goal.After-drop-fitting-in_err-refuse) → All (λ p. IsOfAnswers c.args.setup.now c.args.answers.now (errors.CheckError p)) c.sound-3.new.problems.items
each c =
    let setup = c.args.setup.now in
    let answers = c.args.answers.now in
    all_reasons setup c.args.signatures answers c.in_ok-by_chain.by_chain.items c.in_ok-by_client.by_client.items c.in_ok-by_path.by_path.items
    c.new-problems.result.items c.sound.new.problems.items c.sound-2.new.problems.items c.sound-3.new.problems.items
    c.in_ok-by_chain.ensures (subst (λ l. AreJudgedClients setup answers l c.in_ok-by_client.by_client.items) c.as_slice.ensures.value c.in_ok-by_client.ensures) c.in_ok-by_path.ensures
    c.new-problems.ensures.items c.in_ok-fitting.ensures.problems c.in_ok-clients.ensures.problems c.in_ok-paths.ensures.problems

pub returns-in_err-refuse-clause-reason : goal.returns-in_err-refuse-clause-reason
returns-in_err-refuse-clause-reason c =
    let Holds : ImportError → Type 0 = HasReasonIn c.args.setup.now c.args.answers.now in
    let Is : CheckError → Type 0 = λ p. IsOfAnswers c.args.setup.now c.args.answers.now (errors.CheckError p) in
    refused_so (OfEach Holds) c.from_residual-in_err-refuse.result c.in_err-refuse.field-0.0 (search rules)
    (of_these Holds Is c.sound-3.new.problems.items c.in_err-refuse.field-0.0 (λ p w. w) (each c) c.in_err-refuse.ensures.all)

pub returns-in_err-refuse-clause-names : goal.returns-in_err-refuse-clause-names
returns-in_err-refuse-clause-names c =
    let Holds : ImportError → Type 0 = λ e. ¬ IsTooBig e in
    let Is : CheckError → Type 0 = λ p. IsOfAnswers c.args.setup.now c.args.answers.now (errors.CheckError p) in
    refused_so (OfEach Holds) c.from_residual-in_err-refuse.result c.in_err-refuse.field-0.0 (search rules)
    (of_these Holds Is c.sound-3.new.problems.items c.in_err-refuse.field-0.0 (λ p w. not_too_big c.args.setup.now c.args.answers.now (errors.CheckError p) w) (each c) c.in_err-refuse.ensures.all)

pub returns-in_err-refuse-clause-told : goal.returns-in_err-refuse-clause-told
returns-in_err-refuse-clause-told c =
    let Holds : ImportError → Type 0 = IsToldIn c.args.setup.now in
    let Is : CheckError → Type 0 = λ p. IsOfAnswers c.args.setup.now c.args.answers.now (errors.CheckError p) in
    refused_so (OfEach Holds) c.from_residual-in_err-refuse.result c.in_err-refuse.field-0.0 (search rules)
    (of_these Holds Is c.sound-3.new.problems.items c.in_err-refuse.field-0.0 (λ p w. told_in c.args.setup.now c.args.answers.now p w) (each c) c.in_err-refuse.ensures.all)
