use Rattle.std.proofs.Common.{◌≡◌, ◌<◌, List, length, map, sym, ap, ◌∙◌, subst, arith}
use Rattle.std.specs.List.{All}
use Rattle.std.proofs.lemmas.List.{length-map}
use Rattle.rb_script_types.specs.Script.{IsReadObservation}
use Rattle.rb_script_types.specs.declared.script.Asked.{Asked}
use Rattle.rb_script_types.specs.declared.script.HostWindow.{HostWindow}
use Rattle.rb_script_types.specs.declared.script.Settlement.{Settlement}
use Rattle.rb_super_turn.specs.Phases.{HasLogRoom, IsLater}
use Rattle.rb_super_turn.specs.AsEvents.{most_events}
use Rattle.rb_core.specs.Core.{Core}
use Rattle.rb_script_types.specs.Config.{Config}
use Rattle.rb_super_turn.specs.Views.{refused_view, client_report_view, settlement_view}
use Rattle.rb_super_turn.proofs.Whole.{turn_done}
use Rattle.rb_super.proofs.supervisor.Supervisor.turn.Goals as goal

pub returns-clause-report : goal.returns-clause-report
returns-clause-report g c =
    rw (sym c.self.view_is) ((turn_done c.self.inside.relayer c.prepare.new.relayer c.plan_all.new.relayer c.settle_turn.new.relayer c.args.turn c.as_slice.result.now c.as_slice-2.result.now c.as_slice-3.result.now
    c.in_ok-heard.heard.window_back c.in_ok-heard.heard.hosts_back.items (map refused_view c.in_ok-heard.heard.refused.items) (map client_report_view c.in_ok-clients.clients.items) (map settlement_view c.in_ok-settlements.settlements.items)
    c.as_slice.ensures.value c.as_slice-2.ensures.value c.as_slice-3.ensures.value c.in_ok-heard.ensures.back c.in_ok-heard.ensures.hosts c.in_ok-heard.ensures.refused c.in_ok-heard.ensures.standing
    (length-map c.in_ok-clients.clients.items client_report_view ∙ c.in_ok-clients.ensures.count ∙ ap (λ (k : Config). length k.clients) c.in_ok-heard.ensures.later.config)
    c.in_ok-clients.ensures.reports
    c.in_ok-settlements.ensures.reports c.in_ok-settlements.ensures.standing).0)

pub returns-clause-standing : goal.returns-clause-standing
returns-clause-standing g c =
    rw (sym c.self.view_is) ((turn_done c.self.inside.relayer c.prepare.new.relayer c.plan_all.new.relayer c.settle_turn.new.relayer c.args.turn c.as_slice.result.now c.as_slice-2.result.now c.as_slice-3.result.now
    c.in_ok-heard.heard.window_back c.in_ok-heard.heard.hosts_back.items (map refused_view c.in_ok-heard.heard.refused.items) (map client_report_view c.in_ok-clients.clients.items) (map settlement_view c.in_ok-settlements.settlements.items)
    c.as_slice.ensures.value c.as_slice-2.ensures.value c.as_slice-3.ensures.value c.in_ok-heard.ensures.back c.in_ok-heard.ensures.hosts c.in_ok-heard.ensures.refused c.in_ok-heard.ensures.standing
    (length-map c.in_ok-clients.clients.items client_report_view ∙ c.in_ok-clients.ensures.count ∙ ap (λ (k : Config). length k.clients) c.in_ok-heard.ensures.later.config)
    c.in_ok-clients.ensures.reports
    c.in_ok-settlements.ensures.reports c.in_ok-settlements.ensures.standing).1)

pub prepare-requires-clause-hosts : goal.prepare-requires-clause-hosts
prepare-requires-clause-hosts g c = λ ks _.
    subst (λ (ws : List HostWindow). All (λ (x : HostWindow). x.host < length c.self.inside.relayer.config.chains) ws) (sym c.as_slice.ensures.value)
    (subst (λ (k : Core). All (λ (x : HostWindow). x.host < length k.config.chains) c.args.turn.windows.items) (sym c.self.view_is) (λ k d lt. (c.requires.turn.windows k d lt).0))

pub prepare-requires-clause-goals : goal.prepare-requires-clause-goals
prepare-requires-clause-goals g c = λ ks _.
    subst (λ (gs : List Asked). All (λ (x : Asked). x.client < length c.self.inside.relayer.config.clients) gs) (sym c.as_slice-2.ensures.value)
    (subst (λ (k : Core). All (λ (x : Asked). x.client < length k.config.clients) c.args.turn.goals.items) (sym c.self.view_is) c.requires.turn.goals)

pub prepare-requires-clause-events : goal.prepare-requires-clause-events
prepare-requires-clause-events g c = λ ks _.
    subst (λ (k : Core). All (IsReadObservation (length k.config.chains) (length k.config.clients) (length k.config.paths)) c.args.turn.events.items) (sym c.self.view_is) c.requires.turn.events

pub settle_turn-requires-clause-clients : goal.settle_turn-requires-clause-clients
settle_turn-requires-clause-clients g c =
    let same : c.plan_all.new.relayer.config ≡ c.args.self.config = c.in_ok-clients.ensures.later.config ∙ c.in_ok-heard.ensures.later.config ∙ ap (λ (k : Core). k.config) c.self.view_is in
    subst (λ (xs : List Settlement). All (λ (x : Settlement). x.client < length c.plan_all.new.relayer.config.clients) xs) (sym c.as_slice-3.ensures.value)
    (subst (λ (k : Config). All (λ (x : Settlement). x.client < length k.clients) c.args.turn.settlements.items) (sym same) c.requires.turn.settlements)

pub settle_turn-requires-clause-room : goal.settle_turn-requires-clause-room
settle_turn-requires-clause-room g c =
    let room = subst (λ (k : Core). HasLogRoom k (most_events k.config c.args.turn)) (sym c.self.view_is) c.requires.room in
    let p = c.in_ok-heard.ensures.later.front in
    let q = c.in_ok-clients.ensures.later.front in
    let clients = ap (λ (k : Config). length k.clients) c.in_ok-heard.ensures.later.config in
    let planned = ap (λ (k : Config). length k.clients) c.in_ok-clients.ensures.later.config in
    let windows = ap length c.as_slice.ensures.value in
    let goals = ap length c.as_slice-2.ensures.value in
    let settlements = ap length c.as_slice-3.ensures.value in
    omega arith

pub returns-clause-later : goal.returns-clause-later
returns-clause-later g c =
    let p = c.in_ok-heard.ensures.later.front in
    let q = c.in_ok-clients.ensures.later.front in
    let r = c.in_ok-settlements.ensures.later.front in
    let clients = ap (λ (k : Config). length k.clients) c.in_ok-heard.ensures.later.config in
    let planned = ap (λ (k : Config). length k.clients) c.in_ok-clients.ensures.later.config in
    let windows = ap length c.as_slice.ensures.value in
    let goals = ap length c.as_slice-2.ensures.value in
    let settlements = ap length c.as_slice-3.ensures.value in
    subst (λ (k : Core). IsLater (most_events k.config c.args.turn) k c.settle_turn.new.relayer) c.self.view_is
    (record { config = c.in_ok-settlements.ensures.later.config ∙ c.in_ok-clients.ensures.later.config ∙ c.in_ok-heard.ensures.later.config; front = omega arith })
