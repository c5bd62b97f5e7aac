use Rattle.std.proofs.Common.{◌≡◌, List, None, IfSome, sym, ap, ◌∙◌, subst}
use Rattle.std.proofs.lemmas.Option.{same_Some}
use Rattle.rb_core.specs.Core.{state_in, refusal_in}
use Rattle.rb_plan_client.specs.Draft.{Draft}
use Rattle.rb_plan_client.specs.Task.{Message}
use Rattle.rb_core_model.specs.Event.{Planned}
use Rattle.rb_core_model.specs.Machine.{reply_of, after}
use Rattle.rb_core_model.specs.Replied.{reply_view}
use Rattle.rb_super_turn.specs.Phases.{standing_in, IsOutcomeOf}
use Rattle.rb_super_turn.specs.Report.{Outcome}
use Rattle.rb_super_turn.specs.Views.{outcome_view}
use Rattle.rb_super_turn.specs.declared.outcome.Came.{Came}
use Rattle.rb_super_turn.proofs.Plans.{taken_reported, ready_then, ready_still}
use Rattle.rb_super_turn.proofs.planning.plan_found.Goals as goal

pub returns-in-Some-2-clause-report : goal.returns-in-Some-2-clause-report
returns-in-Some-2-clause-report g c = λ o same.
    let core = c.args.relayer.now in
    let d = c.in-Some.draft in
    let copied = c.in_ok-copy.ensures in
    let ok = sym (ap (λ (x : Draft). refusal_in core (Planned x)) copied)
    ∙ subst (λ r. IfSome r (λ _. refusal_in core (Planned c.in_ok-copy.copy) ≡ None)) c.in-Some-2.is c.in_ok-reply.ensures.accepted in
    let reply = subst (λ r. IfSome r (λ x. reply_view x ≡ reply_of (state_in core) (Planned c.in_ok-copy.copy))) c.in-Some-2.is c.in_ok-reply.ensures.reply
    ∙ ap (λ (x : Draft). reply_of (state_in core) (Planned x)) copied in
    let state = c.in_ok-reply.ensures.state ∙ ap (λ (x : Draft). after (state_in core) (Planned x)) copied in
    let came = c.in_ok-came_of-in-Some-2.ensures in
    subst (λ (x : Came g.row.A.Denot). IsOutcomeOf (standing_in core) (standing_in c.offer.new.relayer) c.args.client (outcome_view x.outcome) x.too_big.items) (same_Some c.in_ok-came_of-in-Some-2.field-0 o same)
    (subst (λ (p : Outcome × List Message). IsOutcomeOf (standing_in core) (standing_in c.offer.new.relayer) c.args.client p.0 p.1) (λ i. (sym came.outcome i, sym came.too_big i))
    (taken_reported core c.offer.new.relayer c.args.client d (reply_view c.in-Some-2.reply) c.in-Some.ensures.client c.in-Some.ensures.right ok reply state))

pub returns-in-Some-2-clause-ready : goal.returns-in-Some-2-clause-ready
returns-in-Some-2-clause-ready g c =
    let core = c.args.relayer.now in
    let copied = c.in_ok-copy.ensures in
    ready_then core c.offer.new.relayer c.in-Some.draft
    (sym (ap (λ (x : Draft). refusal_in core (Planned x)) copied)
    ∙ subst (λ r. IfSome r (λ _. refusal_in core (Planned c.in_ok-copy.copy) ≡ None)) c.in-Some-2.is c.in_ok-reply.ensures.accepted)
    c.requires.ready c.in_ok-reply.ensures.later.config
    (c.in_ok-reply.ensures.state ∙ ap (λ (x : Draft). after (state_in core) (Planned x)) copied)

pub returns-clause-ready : goal.returns-clause-ready
returns-clause-ready g c =
    ready_still c.args.relayer.now c.offer.new.relayer c.requires.ready c.in_ok-reply.ensures.later.config (c.in_ok-reply.ensures.refused c.in-None.is)
