use Rattle.std.proofs.Common.{◌∙◌, [], ◌∷◌, None, Some, ap, map, subst, sym}
use Rattle.std.specs.Prelude.{◌-◌, ◌^◌, List, option_map}
use Rattle.std.specs.Borrow.{Bor}
use Rattle.rb_import_answers.specs.declared.client.ConsensusState.{ConsensusState}
use Rattle.rb_want_requests.specs.declared.content.Folders.{Folders}
use Rattle.rb_want_requests.specs.declared.reason.End.TheVariants as endings
use Rattle.rb_want.specs.Adding.{told_of, with_ends}
use Rattle.rb_want.specs.Needs.{IsStart, highest_of, tracking_of}
use Rattle.rb_want.specs.declared.client.Judging.{Judging}
use Rattle.rb_want.proofs.Seeking.{sought_badly, sought_from, sought_nowhere, sought_unstored}
use Rattle.rb_want.proofs.Waiting.{on_ok}
use Rattle.rb_want.proofs.client.ClientCase.add_sought.Goals as goal

-- the options are out of range
pub returns-in_default-clause-outcome : goal.returns-in_default-clause-outcome
returns-in_default-clause-outcome c =
    let old = c.args.wanted.now in
    sought_badly (tracking_of c.args.self.now) (map (λ r. r.now) c.args.self.now.answers.records.items) old.folders.now (told_of old)
    (told_of c.add_end.new.wanted) (sym c.judging.ensures ∙ ap (option_map (λ (j : Judging). j.options)) c.in_default.is)
    (ap (λ v. v.items) c.in_ok-add_end.ensures.requests) (ap (λ v. v.items) c.in_ok-add_end.ensures.reasons)
    (c.in_ok-add_end.ensures.ends ∙ ap (λ id. with_ends old.ends.items (endings.BadOptions id ∷ [])) c.id-client.ensures)

-- there is no aim
pub returns-in_default-2-clause-outcome : goal.returns-in_default-2-clause-outcome
returns-in_default-2-clause-outcome c =
    let old = c.args.wanted.now in
    sought_nowhere (tracking_of c.args.self.now) (map (λ r. r.now) c.args.self.now.answers.records.items) c.in-Some.judging.options old.folders.now
    (told_of old) (told_of c.aim.new.wanted) (sym c.judging.ensures ∙ ap (option_map (λ (j : Judging). j.options)) c.in-Some.is)
    (sym c.in_ok-aim.ensures.aim ∙ c.in_default-2.is) (ap (λ v. v.items) c.in_ok-aim.ensures.requests) (ap (λ v. v.items) c.in_ok-aim.ensures.reasons)
    c.in_ok-aim.ensures.ends

-- the search from a stored height
pub returns-in-Some-first_for-clause-outcome : goal.returns-in-Some-first_for-clause-outcome
returns-in-Some-first_for-clause-outcome c =
    let old = c.args.wanted.now in
    let mid = c.aim.new.wanted in
    let t = tracking_of c.args.self.now in
    let most = highest_of c.args.self.now.goal (2 ^ 63 - 1) in
    let start : IsStart (map (λ r. r.now) c.args.self.now.answers.records.items) most (Some c.in-Some-first_for.first) =
    subst (λ (l : List (Bor ConsensusState)). IsStart (map (λ r. r.now) l) most (Some c.in-Some-first_for.first)) c.as_slice.ensures.value
    (subst (IsStart (map (λ r. r.now) c.as_slice.result.now) most) c.in-Some-first_for.is c.first_for.ensures) in
    on_ok c.add_search.result _ _
    (λ comes. sought_from t (map (λ r. r.now) c.args.self.now.answers.records.items) c.in-Some.judging.options c.in-Some-2.aim (Some c.in-Some-first_for.first)
    old.folders.now mid.folders.now (told_of old) (told_of mid) (told_of c.add_search.new.wanted)
    (sym c.judging.ensures ∙ ap (option_map (λ (j : Judging). j.options)) c.in-Some.is) (sym c.in_ok-aim.ensures.aim ∙ c.in-Some-2.is)
    (ap (λ (b : Bor Folders). b.now) c.in_ok-aim.ensures.folders) (ap (λ v. v.items) c.in_ok-aim.ensures.requests)
    (ap (λ v. v.items) c.in_ok-aim.ensures.reasons) c.in_ok-aim.ensures.ends start comes)
    c.add_search.ensures.outcome

-- nothing is stored
pub returns-in_ok-add_end-in-None-clause-outcome : goal.returns-in_ok-add_end-in-None-clause-outcome
returns-in_ok-add_end-in-None-clause-outcome c =
    let old = c.args.wanted.now in
    let mid = c.aim.new.wanted in
    let new = c.add_end-in-None.new.wanted in
    let t = tracking_of c.args.self.now in
    let stored = map (λ r. r.now) c.args.self.now.answers.records.items in
    let most = highest_of c.args.self.now.goal (2 ^ 63 - 1) in
    let start : IsStart stored most None =
    subst (λ (l : List (Bor ConsensusState)). IsStart (map (λ r. r.now) l) most None) c.as_slice.ensures.value
    (subst (IsStart (map (λ r. r.now) c.as_slice.result.now) most) c.in-None.is c.first_for.ensures) in
    sought_from t stored c.in-Some.judging.options c.in-Some-2.aim None old.folders.now mid.folders.now (told_of old) (told_of mid) (told_of new)
    (sym c.judging.ensures ∙ ap (option_map (λ (j : Judging). j.options)) c.in-Some.is) (sym c.in_ok-aim.ensures.aim ∙ c.in-Some-2.is)
    (ap (λ (b : Bor Folders). b.now) c.in_ok-aim.ensures.folders) (ap (λ v. v.items) c.in_ok-aim.ensures.requests)
    (ap (λ v. v.items) c.in_ok-aim.ensures.reasons) c.in_ok-aim.ensures.ends start
    (sought_unstored t stored c.in-Some.judging.options c.in-Some-2.aim mid.folders.now (told_of mid) (told_of new)
    (ap (λ v. v.items) c.in_ok-add_end-in-None.ensures.requests) (ap (λ v. v.items) c.in_ok-add_end-in-None.ensures.reasons)
    (c.in_ok-add_end-in-None.ensures.ends ∙ ap (λ id. with_ends mid.ends.items (endings.NoRecord id ∷ [])) c.id-client.ensures))
