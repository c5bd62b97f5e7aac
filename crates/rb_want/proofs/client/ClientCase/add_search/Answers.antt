use Rattle.std.proofs.Common.{◌∙◌, [], ◌∷◌, ap, refl, subst}
use Rattle.rb_want_requests.specs.Search.{IsFinding}
use Rattle.rb_want_requests.specs.declared.searching.SearchOutcome.TheVariants as findings
use Rattle.rb_want.specs.Adding.{ended, no_outcome, told_of, with_ends}
use Rattle.rb_want.specs.Judgements.{AreByRule}
use Rattle.rb_want.specs.Needs.{tracking_of, why_stuck}
use Rattle.rb_want_requests.specs.declared.reason.End.TheVariants as endings
use Rattle.rb_want.proofs.Seeking.{outcome_ended, outcome_none, sought, told_stuck}
use Rattle.rb_want.proofs.Waiting.{on_ok}
use Rattle.rb_want.proofs.client.ClientCase.add_search.Goals as goal

-- the search has reached its aim
pub returns-in-Reached-clause-outcome : goal.returns-in-Reached-clause-outcome
returns-in-Reached-clause-outcome c =
    let old = c.args.wanted.now in
    let steps = c.steps_of-steps.result in
    sought (tracking_of c.args.self.now) c.args.judging.now.options c.args.aim.now _ c.args.first steps (findings.Reached c.in-Reached.field-0)
    old.folders.now (told_of old) (told_of old) no_outcome c.steps_of-steps.ensures
    (subst (IsFinding (AreByRule steps) c.args.first c.args.aim.now) c.in-Reached.is c.in_ok-search.ensures) refl
    (outcome_none old.folders.now (told_of old) (told_of old) refl refl refl)

-- the step of its question
pub returns-in-Asks-clause-outcome : goal.returns-in-Asks-clause-outcome
returns-in-Asks-clause-outcome c =
    let old = c.args.wanted.now in
    let steps = c.steps_of-steps.result in
    on_ok c.add_question.result _ _
    (λ asked. sought (tracking_of c.args.self.now) c.args.judging.now.options c.args.aim.now _ c.args.first steps (findings.Asks c.in-Asks.question)
    old.folders.now (told_of old) (told_of c.add_question.new.wanted) asked.0 c.steps_of-steps.ensures
    (subst (IsFinding (AreByRule steps) c.args.first c.args.aim.now) c.in-Asks.is c.in_ok-search.ensures) asked.1 asked.2)
    c.add_question.ensures.outcome

-- the search can't go on
pub returns-in_ok-add_end-in-Stuck-clause-outcome : goal.returns-in_ok-add_end-in-Stuck-clause-outcome
returns-in_ok-add_end-in-Stuck-clause-outcome c =
    let old = c.args.wanted.now in
    let new = c.add_end.new.wanted in
    let steps = c.steps_of-steps.result in
    let t = tracking_of c.args.self.now in
    let said = c.in_ok-verdict_on-in-Stuck.field-0 in
    let why = why_stuck t c.args.judging.now.options c.in-Stuck.trusted c.in-Stuck.height said in
    sought t c.args.judging.now.options c.args.aim.now _ c.args.first steps (findings.Stuck c.in-Stuck.trusted c.in-Stuck.height)
    old.folders.now (told_of old) (told_of new) (ended (endings.Stuck why)) c.steps_of-steps.ensures
    (subst (IsFinding (AreByRule steps) c.args.first c.args.aim.now) c.in-Stuck.is c.in_ok-search.ensures) (said, c.in_ok-verdict_on-in-Stuck.ensures, refl)
    (outcome_ended old.folders.now (told_of old) (told_of new) (endings.Stuck why) (ap (λ v. v.items) c.in_ok-add_end-in-Stuck.ensures.requests)
    (ap (λ v. v.items) c.in_ok-add_end-in-Stuck.ensures.reasons)
    (c.in_ok-add_end-in-Stuck.ensures.ends ∙ ap (λ w. with_ends old.ends.items (endings.Stuck w ∷ []))
    (told_stuck t c.args.judging.now.options c.in-Stuck.trusted c.in-Stuck.height said c.id.result _ c.id.ensures c.args.judging.now.same)))
