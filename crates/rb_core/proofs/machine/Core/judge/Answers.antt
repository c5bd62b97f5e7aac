use Rattle.std.proofs.Common.{◌≡◌, Option, IfErr, refl, sym, ap, ◌∙◌, subst, arith}
use Rattle.std.specs.Arc.{arc_value}
use Rattle.std.specs.Option.{option_map}
use Rattle.rb_script_types.specs.Config.{config_view}
use Rattle.rb_script_types.specs.declared.refusal.Refusal.{Refusal}
use Rattle.rb_core.specs.Core.{Core, state_in, refusal_in, IsFold}
use Rattle.rb_core_model.specs.Entry.{log_from}
use Rattle.rb_core_model.specs.Snapshot.{Log}
use Rattle.rb_core_model.specs.Invariant.{HasInvariant}
use Rattle.rb_core.specs.State.{start_of, state_view}
use Rattle.rb_core_model.specs.Machine.{State, refusal_of}
use Rattle.rb_core_model.specs.Refused.{IsRefusal}
use Rattle.rb_core_model.specs.Seen.{event_view}
use Rattle.rb_core_model.proofs.Keeping.{kept_of_events}
use Rattle.rb_core.proofs.Rooms.{is_ready, judged_event, ready_kept}
use Rattle.rb_core.proofs.machine.Core.judge.Goals as goal

pub make_ready-requires : goal.make_ready-requires
make_ready-requires g c =
    let config = config_view c.self.inside.config in
    record { kept = subst (λ (s : State). HasInvariant s) (sym c.self.invariant.state) (kept_of_events config (log_from config (start_of (option_map arc_value c.self.inside.begun)) c.self.inside.log.items) c.self.invariant.set_up c.self.invariant.begun) }

pub invariant_of-self : goal.invariant_of-self
invariant_of-self g c =
    let config = config_view c.self.inside.config in
    let made = c.make_ready.ensures in
    subst (λ (p : Log × State). IsFold config p.0 p.1) (λ i. (log_from config (start_of (option_map arc_value c.self.inside.begun)) (sym made.log i), sym made.same i)) c.self.invariant

pub returns-clause-judged : goal.returns-clause-judged
returns-clause-judged g c = judged_event c.make_ready.result _ (event_view c.args.event) c.make_ready.ensures.ready

pub returns-clause-ready : goal.returns-clause-ready
returns-clause-ready g c =
    let inside = c.self.inside in
    let config = config_view inside.config in
    let start = start_of (option_map arc_value inside.begun) in
    let made = c.make_ready.ensures in
    is_ready config inside.state c.make_ready.new.state (log_from config start c.make_ready.new.log.items) (log_from config start inside.log.items) _ _ (event_view c.args.event) c.make_ready.result
    c.self.invariant made.same (ap (log_from config start) made.log) made.ready made.accepted made.room made.log_room

pub returns-clause-refused : goal.returns-clause-refused
returns-clause-refused g c =
    let state : state_view c.self.inside.state ≡ state_in c.args.self.now = c.self.invariant.state ∙ ap state_in c.self.view_is in
    let due : refusal_of (state_view c.self.inside.state) (event_view c.args.event) ≡ refusal_in c.args.self.now (event_view c.args.event) =
    ap (λ (s : State). refusal_of s (event_view c.args.event)) state in
    subst (λ (o : Option Refusal). IfErr c.make_ready.result (λ e. IsRefusal e o)) due c.make_ready.ensures.refused

pub returns-clause-kept : goal.returns-clause-kept
returns-clause-kept g c =
    let inside = c.self.inside in
    let config = config_view inside.config in
    let start = start_of (option_map arc_value inside.begun) in
    let made = c.make_ready.ensures in
    ready_kept c.args.self.now _ _ inside.state c.make_ready.new.state _ _ (ap (λ (x : Core). x.room) (sym c.self.view_is)) (c.self.invariant.state ∙ ap state_in c.self.view_is)
    (ap (λ (x : Core). x.config) c.self.view_is) (ap (log_from config start) made.log ∙ ap (λ (x : Core). x.log) c.self.view_is) refl made.same (λ some. made.log_others (omega (arith, some))) made.others
