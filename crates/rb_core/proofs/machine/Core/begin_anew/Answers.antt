use Rattle.std.proofs.Common.{◌≡◌, [], Result, Ok, Err, IfOk, ap, ◌∙◌, sym, subst}
use Rattle.std.specs.Arc.{arc_value}
use Rattle.std.specs.Option.{option_map}
use Rattle.rb_script_types.specs.Config.{Config, config_view}
use Rattle.rb_core.specs.Core.{Core, state_in}
use Rattle.rb_core.specs.State.{standing_view, state_view, start_of}
use Rattle.rb_core_model.specs.Entry.{log_from}
use Rattle.rb_core_model.specs.Forgetting.{rest_at_floors}
use Rattle.rb_core_model.specs.Machine.{State, state_of}
use Rattle.rb_core_model.specs.Snapshot.{Log, snapshot_of}
use Rattle.rb_core_model.specs.Standing.{Standing}
use Rattle.rb_core.proofs.Anew.{begins_anew}
use Rattle.rb_core.proofs.machine.Core.begin_anew.Goals as goal

-- how things stand in a core, by its configuration and its log
stands_in : {E : Type 0} (r : Result Core E) (config : Config) (log : Log) (s : Standing) → (state_of config log).standing ≡ s
    → IfOk r (λ core. core.config ≡ config) → IfOk r (λ core. core.log ≡ log) → IfOk r (λ core. (state_in core).standing ≡ s)
stands_in (Ok core) config log s stands same is = (λ i. (state_of (same i) (is i)).standing) ∙ stands
stands_in (Err e) config log s stands same is = tt

pub begun_in-requires : goal.begun_in-requires
begun_in-requires g c =
    let inside = c.self.inside in
    begins_anew (config_view inside.config) (log_from (config_view inside.config) (start_of (option_map arc_value inside.begun)) inside.log.items) (state_view inside.state) (state_view c.in_ok-state.state)
    c.self.invariant c.in_ok-state.ensures.state c.in_ok-state.ensures.few

pub returns-clause-config : goal.returns-clause-config
returns-clause-config g c =
    subst (λ (config : Config). IfOk c.begun_in.result (λ (core : Core). core.config ≡ config)) (ap (λ (core : Core). core.config) c.self.view_is) c.begun_in.ensures.config

pub returns-clause-log : goal.returns-clause-log
returns-clause-log g c =
    let left : standing_view c.in_ok-state.state ≡ rest_at_floors (state_in c.args.self).standing =
    ap (λ (s : State). s.standing) c.in_ok-state.ensures.state ∙ ap (λ (s : State). rest_at_floors s.standing) (c.self.invariant.state ∙ ap state_in c.self.view_is) in
    subst (λ (s : Standing). IfOk c.begun_in.result (λ (core : Core). core.log ≡ record { start = snapshot_of s; events = [] })) left c.begun_in.ensures.log

pub returns-clause-standing : goal.returns-clause-standing
returns-clause-standing g c =
    let inside = c.self.inside in
    let config = config_view inside.config in
    let new = state_view c.in_ok-state.state in
    let is = begins_anew config (log_from config (start_of (option_map arc_value inside.begun)) inside.log.items) (state_view inside.state) new c.self.invariant c.in_ok-state.ensures.state c.in_ok-state.ensures.few in
    let left : new.standing ≡ rest_at_floors (state_in c.args.self).standing =
    ap (λ (s : State). s.standing) c.in_ok-state.ensures.state ∙ ap (λ (s : State). rest_at_floors s.standing) (c.self.invariant.state ∙ ap state_in c.self.view_is) in
    stands_in c.begun_in.result config (record { start = snapshot_of new.standing; events = [] }) _ (sym (ap (λ (s : State). s.standing) is.state) ∙ left) c.begun_in.ensures.config c.begun_in.ensures.log
