use Rattle.std.proofs.Common.{◌≡◌, None, refl, sym, ap, ◌∙◌, subst, arith}
use Rattle.std.specs.Arc.{arc_value}
use Rattle.std.specs.Option.{option_map}
use Rattle.rb_script_types.specs.Config.{config_view}
use Rattle.rb_core.specs.Core.{Core, state_in}
use Rattle.rb_core_model.specs.Entry.{log_from}
use Rattle.rb_core_model.specs.Invariant.{HasInvariant}
use Rattle.rb_core.specs.State.{start_of, state_view}
use Rattle.rb_core_model.specs.Machine.{State, refusal_of}
use Rattle.rb_core_model.specs.Seen.{event_view}
use Rattle.rb_core_model.proofs.Keeping.{kept_of_events}
use Rattle.rb_core.proofs.Rooms.{is_ready, ready_kept, if_ok_of}
use Rattle.rb_core.proofs.machine.Core.judge_accepted.Goals as goal

pub make_ready_accepted-requires-clause-kept : goal.make_ready_accepted-requires-clause-kept
make_ready_accepted-requires-clause-kept g c =
    let config = config_view c.self.inside.config in
    subst (λ (s : State). HasInvariant s) (sym c.self.invariant.state) (kept_of_events config (log_from config (start_of (option_map arc_value c.self.inside.begun)) c.self.inside.log.items) c.self.invariant.set_up c.self.invariant.begun)

pub returns-clause-ready : goal.returns-clause-ready
returns-clause-ready g c =
    let inside = c.self.inside in
    let config = config_view inside.config in
    let start = start_of (option_map arc_value inside.begun) in
    let made = c.make_ready_accepted.ensures in
    let state : state_view inside.state ≡ state_in c.args.self.now = c.self.invariant.state ∙ ap state_in c.self.view_is in
    let accepted : refusal_of (state_view inside.state) (event_view c.args.event) ≡ None = ap (λ (s : State). refusal_of s (event_view c.args.event)) state ∙ c.requires.accepted in
    is_ready config inside.state c.make_ready_accepted.new.state (log_from config start c.make_ready_accepted.new.log.items) (log_from config start inside.log.items) _ _ (event_view c.args.event) c.make_ready_accepted.result
    c.self.invariant made.same (ap (log_from config start) made.log) made.ready (if_ok_of c.make_ready_accepted.result accepted) made.room made.log_room

pub returns-clause-kept : goal.returns-clause-kept
returns-clause-kept g c =
    let inside = c.self.inside in
    let config = config_view inside.config in
    let start = start_of (option_map arc_value inside.begun) in
    let made = c.make_ready_accepted.ensures in
    ready_kept c.args.self.now _ _ inside.state c.make_ready_accepted.new.state _ _ (ap (λ (x : Core). x.room) (sym c.self.view_is)) (c.self.invariant.state ∙ ap state_in c.self.view_is)
    (ap (λ (x : Core). x.config) c.self.view_is) (ap (log_from config start) made.log ∙ ap (λ (x : Core). x.log) c.self.view_is) refl made.same (λ some. made.log_others (omega (arith, some))) made.others
