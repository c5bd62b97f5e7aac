use Rattle.std.proofs.Common.{◌≡◌, ◌<◌, List, length, sym, ap, ◌∙◌, subst, arith}
use Rattle.std.specs.List.{All}
use Rattle.rb_core.specs.Core.{Core}
use Rattle.rb_script_types.specs.Script.{IsReadObservation}
use Rattle.rb_script_types.specs.declared.script.Asked.{Asked}
use Rattle.rb_script_types.specs.declared.script.HostWindow.{HostWindow}
use Rattle.rb_super_turn.specs.Phases.{standing_in, HasLogRoom, turn_heard}
use Rattle.rb_super_turn.specs.AsEvents.{code_turn_as_events, most_events}
use Rattle.rb_super_turn.specs.Turns.{before_plans}
use Rattle.rb_super.proofs.supervisor.Supervisor.plan_phase.Goals as goal

pub prepare-requires-clause-hosts : goal.prepare-requires-clause-hosts
prepare-requires-clause-hosts g c = λ ks _.
    subst (λ (ws : List HostWindow). All (λ (x : HostWindow). x.host < length c.self.inside.relayer.config.chains) ws) (sym c.as_slice.ensures.value)
    (subst (λ (k : Core). All (λ (x : HostWindow). x.host < length k.config.chains) c.args.turn.windows.items) (sym c.self.view_is) (λ k d lt. (c.requires.turn.windows k d lt).0))

pub prepare-requires-clause-goals : goal.prepare-requires-clause-goals
prepare-requires-clause-goals g c = λ ks _.
    subst (λ (gs : List Asked). All (λ (x : Asked). x.client < length c.self.inside.relayer.config.clients) gs) (sym c.as_slice-2.ensures.value)
    (subst (λ (k : Core). All (λ (x : Asked). x.client < length k.config.clients) c.args.turn.goals.items) (sym c.self.view_is) c.requires.turn.goals)

pub prepare-requires-clause-events : goal.prepare-requires-clause-events
prepare-requires-clause-events g c = λ ks _.
    subst (λ (k : Core). All (IsReadObservation (length k.config.chains) (length k.config.clients) (length k.config.paths)) c.args.turn.events.items) (sym c.self.view_is) c.requires.turn.events

pub prepare-requires-clause-room : goal.prepare-requires-clause-room
prepare-requires-clause-room g c = λ ks _.
    let room = subst (λ (k : Core). HasLogRoom k (most_events k.config c.args.turn)) (sym c.self.view_is) c.requires.room in
    let windows = ap length c.as_slice.ensures.value in
    let goals = ap length c.as_slice-2.ensures.value in
    omega arith

pub returns-clause-standing : goal.returns-clause-standing
returns-clause-standing g c =
    let same : standing_in c.prepare.new.relayer ≡ before_plans (standing_in c.self.inside.relayer) (code_turn_as_events c.args.turn) =
    c.in_ok-prepare.ensures.standing
    ∙ (λ i. before_plans (standing_in c.self.inside.relayer) (turn_heard c.args.turn.window (c.as_slice.ensures.value i) (c.as_slice-2.ensures.value i) c.args.turn.events.items)) in
    subst (λ (k : Core). standing_in c.prepare.new.relayer ≡ before_plans (standing_in k) (code_turn_as_events c.args.turn)) c.self.view_is same

pub returns-clause-config : goal.returns-clause-config
returns-clause-config g c = c.in_ok-prepare.ensures.later.config ∙ ap (λ (k : Core). k.config) c.self.view_is

pub returns-clause-room : goal.returns-clause-room
returns-clause-room g c =
    let room = subst (λ (k : Core). HasLogRoom k (most_events k.config c.args.turn)) (sym c.self.view_is) c.requires.room in
    let front = c.in_ok-prepare.ensures.later.front in
    let windows = ap length c.as_slice.ensures.value in
    let goals = ap length c.as_slice-2.ensures.value in
    subst (λ (k : Core). HasLogRoom c.prepare.new.relayer (length k.config.clients)) c.self.view_is (omega arith)
