use Rattle.std.proofs.Common.{◌≡◌, List, None, sym, ap, ◌∙◌, subst}
use Rattle.rb_core.specs.Core.{Core, state_in, refusal_in}
use Rattle.rb_plan_client.specs.Draft.{Draft}
use Rattle.rb_plan_client.specs.Task.{Message}
use Rattle.rb_core_model.specs.Event.{Planned}
use Rattle.rb_core_model.specs.Machine.{reply_of, after}
use Rattle.rb_core_model.specs.Replied.{reply_view}
use Rattle.rb_super_turn.specs.Phases.{standing_in, IsLater, IsOutcomeOf}
use Rattle.rb_super_turn.specs.Report.{Outcome}
use Rattle.rb_super_turn.proofs.Plans.{draft_accepted, draft_reported, ready_after}
use Rattle.rb_super_turn.proofs.planning.plan_here.Goals as goal

pub note-requires-clause-accepted : goal.note-requires-clause-accepted
note-requires-clause-accepted g c =
    let core = c.args.relayer.now in
    subst (λ (k : Core). refusal_in k (Planned c.in_ok-copy.copy) ≡ None) (sym c.planned_for.ensures.same)
    (ap (λ (d : Draft). refusal_in core (Planned d)) c.in_ok-copy.ensures
    ∙ draft_accepted core c.args.client c.in_ok-draft.draft c.requires.client c.requires.room c.requires.ready c.requires.none_open c.in_ok-draft.ensures.view)

pub returns-clause-report : goal.returns-clause-report
returns-clause-report g c =
    let core = c.args.relayer.now in
    let same = c.planned_for.ensures.same in
    let came = c.in_ok-came.ensures in
    subst (λ (p : Outcome × List Message). IsOutcomeOf (standing_in core) (standing_in c.note.new.relayer) c.args.client p.0 p.1) (λ i. (sym came.outcome i, sym came.too_big i))
    (draft_reported core c.note.new.relayer c.args.client c.in_ok-draft.draft (reply_view c.in_ok-reply.reply) c.requires.client c.in_ok-draft.ensures.right c.requires.room c.requires.ready
    c.requires.none_open c.in_ok-draft.ensures.view
    (c.in_ok-reply.ensures.reply ∙ ap (λ (k : Core). reply_of (state_in k) (Planned c.in_ok-copy.copy)) same ∙ ap (λ (d : Draft). reply_of (state_in core) (Planned d)) c.in_ok-copy.ensures)
    (c.in_ok-reply.ensures.state ∙ ap (λ (k : Core). after (state_in k) (Planned c.in_ok-copy.copy)) same ∙ ap (λ (d : Draft). after (state_in core) (Planned d)) c.in_ok-copy.ensures))

pub returns-clause-ready : goal.returns-clause-ready
returns-clause-ready g c =
    let core = c.args.relayer.now in
    let same = c.planned_for.ensures.same in
    ready_after core c.note.new.relayer c.args.client c.in_ok-draft.draft c.requires.client c.requires.room c.requires.ready c.requires.none_open c.in_ok-draft.ensures.view
    (c.in_ok-reply.ensures.later.config ∙ ap (λ (k : Core). k.config) same)
    (c.in_ok-reply.ensures.state ∙ ap (λ (k : Core). after (state_in k) (Planned c.in_ok-copy.copy)) same ∙ ap (λ (d : Draft). after (state_in core) (Planned d)) c.in_ok-copy.ensures)

pub returns-clause-later : goal.returns-clause-later
returns-clause-later g c = subst (λ (k : Core). IsLater 1 k c.note.new.relayer) c.planned_for.ensures.same c.in_ok-reply.ensures.later
