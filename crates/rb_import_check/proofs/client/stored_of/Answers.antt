use Rattle.std.proofs.Common.{◌≡◌, ◌≢◌, ℕ, All, Contains, List, map, rules, subst, sym}
use Rattle.std.specs.Prelude.{Any}
use Rattle.rb_import_answers.specs.Revisions.{IsRevision}
use Rattle.rb_import_check.specs.declared.client.Stored.{Stored}
use Rattle.rb_import_check.specs.declared.error.CheckErrorName.{CheckErrorName}
use Rattle.rb_import_check.specs.declared.error.ImportError.{ImportError}
use Rattle.rb_import_check.specs.Clients.{AreFilesInSomeOrder, AreStatesInSomeOrder, AreStatesOfFiles, AtRevision, HasReason, HaveStates, IsOfRevision, current_of, filed_state, filed_states_of}
use Rattle.rb_import_check.specs.Errors.{IsTold}
use Rattle.rb_import_check.specs.Named.{NamesIn, NamesOtherRecord, NamesTwoAmong}
use Rattle.rb_import_check.proofs.Naming.{names_foreign, names_revision, names_twice_in}
use Rattle.rb_import_check.proofs.ReasonsLemmas.{are_of_revision, tells_revision, tells_twice}
use Rattle.rb_import_check.proofs.Repeats.{all_taken, are_of_files, err_so, have_states, ok_so, state_of}
use Rattle.rb_import_check.proofs.client.stored_of.Goals as goal

pub returns-in_err-current_of-clause-named : goal.returns-in_err-current_of-clause-named
returns-in_err-current_of-clause-named c =
    let named : NamesIn c.args.tracked.now c.args.answers.now c.in_err-current_of.field-0.0 =
    names_foreign c.args.tracked.now c.args.answers.now _ c.in_err-current_of.field-0.0 c.in_err-current_of.ensures.foreign c.in_err-current_of.ensures.named in
    search rules

pub returns-in_err-judge_revisions-clause-named : goal.returns-in_err-judge_revisions-clause-named
returns-in_err-judge_revisions-clause-named c =
    let revision = c.revision_of-revision.result in
    let e = c.in_err-judge_revisions.field-0.0 in
    let same : AreFilesInSomeOrder (filed_states_of revision c.args.answers.now) c.in_ok-told.told.items =
    subst (λ l. AreFilesInSomeOrder l c.in_ok-told.told.items) c.in_ok-current_of.ensures.files c.in_ok-told.ensures.files in
    let is : IsRevision c.args.tracked.now revision = search rules in
    let which : Any (λ x. NamesOtherRecord revision (filed_state x) e) c.in_ok-told.told.items =
    subst (λ (l : List Stored). Any (λ x. NamesOtherRecord revision (filed_state x) e) l) c.as_slice.ensures.value c.in_err-judge_revisions.ensures.named in
    let named : NamesIn c.args.tracked.now c.args.answers.now e =
    names_revision c.args.tracked.now c.args.answers.now revision c.in_ok-told.told.items _ e is same c.in_err-judge_revisions.ensures.other which in
    search rules

pub returns-in_err-judge_revisions-clause-reason : goal.returns-in_err-judge_revisions-clause-reason
returns-in_err-judge_revisions-clause-reason c =
    let revision : ℕ = c.revision_of-revision.result in
    let told : List Stored = c.in_ok-told.told.items in
    let e : ImportError = c.in_err-judge_revisions.field-0.0 in
    let same : AreStatesInSomeOrder (current_of revision c.args.answers.now) told =
    subst (λ l. AreStatesInSomeOrder l told) c.in_ok-current_of.ensures.states c.in_ok-told.ensures.same in
    let is : IsRevision c.args.tracked.now revision = search rules in
    let other : IsTold CheckErrorName.OtherRevision (Any (λ (s : Stored). s.state.now.revision ≢ revision) told) e =
    subst (λ (l : List Stored). IsTold CheckErrorName.OtherRevision (Any (λ (s : Stored). s.state.now.revision ≢ revision) l) e) c.as_slice.ensures.value c.in_err-judge_revisions.ensures.other in
    let reason : HasReason c.args.setup.now c.args.tracked.now c.args.answers.now e =
    tells_revision c.args.setup.now c.args.tracked.now c.args.answers.now revision told e is same other in
    search rules

pub returns-clause-revision : goal.returns-clause-revision
returns-clause-revision c =
    let revision : ℕ = c.revision_of-revision.result in
    let told : List Stored = c.in_ok-told.told.items in
    let is : IsRevision c.args.tracked.now revision = search rules in
    let here : All (λ (s : Stored). s.state.now.revision ≡ revision) told =
    subst (All (λ (s : Stored). s.state.now.revision ≡ revision)) c.as_slice.ensures.value c.in_ok-judge_revisions.ensures.revision in
    ok_so (λ v. All (Contains c.as_slice-2.result.now) v.items) (λ v. All (Contains c.as_slice-2.result.now) v.items) (λ v. All (IsOfRevision c.args.tracked.now) v.items) c.each_once.result
    (λ v among same. are_of_revision c.args.tracked.now revision v.items is
    (all_taken (λ (s : Stored). s.state.now.revision ≡ revision) told v.items here (subst (λ l. All (Contains l) v.items) c.as_slice-2.ensures.value among)))
    c.each_once.ensures.among c.each_once.ensures.among

pub returns-clause-states : goal.returns-clause-states
returns-clause-states c =
    let revision : ℕ = c.revision_of-revision.result in
    let told : List Stored = c.in_ok-told.told.items in
    let same : AreStatesInSomeOrder (current_of revision c.args.answers.now) told =
    subst (λ l. AreStatesInSomeOrder l told) c.in_ok-current_of.ensures.states c.in_ok-told.ensures.same in
    let is : IsRevision c.args.tracked.now revision = search rules in
    ok_so (λ v. All (Contains c.as_slice-2.result.now) v.items) (λ v. All (λ (s : Stored). Contains (map state_of v.items) s.state.now) c.as_slice-2.result.now)
    (λ v. AtRevision c.args.tracked.now (λ revision. HaveStates (current_of revision c.args.answers.now) v.items)) c.each_once.result
    (λ v among all. (
      revision,
      is,
      have_states (current_of revision c.args.answers.now) told v.items same (subst (λ l. All (Contains l) v.items) c.as_slice-2.ensures.value among)
          (subst (All (λ (s : Stored). Contains (map state_of v.items) s.state.now)) c.as_slice-2.ensures.value all),
    ))
    c.each_once.ensures.among c.each_once.ensures.all

pub returns-clause-files : goal.returns-clause-files
returns-clause-files c =
    let revision : ℕ = c.revision_of-revision.result in
    let told : List Stored = c.in_ok-told.told.items in
    let same : AreFilesInSomeOrder (filed_states_of revision c.args.answers.now) told =
    subst (λ l. AreFilesInSomeOrder l told) c.in_ok-current_of.ensures.files c.in_ok-told.ensures.files in
    let is : IsRevision c.args.tracked.now revision = search rules in
    ok_so (λ v. All (Contains c.as_slice-2.result.now) v.items) (λ v. All (Contains c.as_slice-2.result.now) v.items)
    (λ v. AtRevision c.args.tracked.now (λ revision. AreStatesOfFiles (filed_states_of revision c.args.answers.now) v.items)) c.each_once.result
    (λ v among also. (revision, is, are_of_files (filed_states_of revision c.args.answers.now) told v.items same (subst (λ l. All (Contains l) v.items) c.as_slice-2.ensures.value among)))
    c.each_once.ensures.among c.each_once.ensures.among

pub returns-clause-reason : goal.returns-clause-reason
returns-clause-reason c =
    let revision : ℕ = c.revision_of-revision.result in
    let told : List Stored = c.in_ok-told.told.items in
    let same : AreStatesInSomeOrder (current_of revision c.args.answers.now) told =
    subst (λ l. AreStatesInSomeOrder l told) c.in_ok-current_of.ensures.states c.in_ok-told.ensures.same in
    let is : IsRevision c.args.tracked.now revision = search rules in
    err_so (NamesTwoAmong c.as_slice-2.result.now) (HasReason c.args.setup.now c.args.tracked.now c.args.answers.now) c.each_once.result
    (λ e two. tells_twice c.args.setup.now c.args.tracked.now c.args.answers.now revision told e is same (subst (λ l. NamesTwoAmong l e) c.as_slice-2.ensures.value two))
    c.each_once.ensures.two

pub returns-clause-named : goal.returns-clause-named
returns-clause-named c =
    let revision : ℕ = c.revision_of-revision.result in
    let told : List Stored = c.in_ok-told.told.items in
    let same : AreFilesInSomeOrder (filed_states_of revision c.args.answers.now) told =
    subst (λ l. AreFilesInSomeOrder l told) c.in_ok-current_of.ensures.files c.in_ok-told.ensures.files in
    let is : IsRevision c.args.tracked.now revision = search rules in
    err_so (NamesTwoAmong c.as_slice-2.result.now) (NamesIn c.args.tracked.now c.args.answers.now) c.each_once.result
    (λ e two. names_twice_in c.args.tracked.now c.args.answers.now revision told e is same (subst (λ l. NamesTwoAmong l e) c.as_slice-2.ensures.value two))
    c.each_once.ensures.two
