use Rattle.std.proofs.Common.{◌≡◌, ◌+◌, ◌<◌, IfOk, List, length, map, sym, ap, ◌∙◌, subst, arith}
use Rattle.std.specs.List.{All}
use Rattle.std.specs.Result.{OnOk}
use Rattle.std.proofs.lemmas.List.{length-map}
use Rattle.rb_script_types.specs.Script.{IsReadObservation}
use Rattle.rb_script_types.specs.declared.script.Asked.{Asked}
use Rattle.rb_script_types.specs.declared.script.HostWindow.{HostWindow}
use Rattle.rb_script_types.specs.declared.script.Settlement.{Settlement}
use Rattle.rb_super_turn.specs.Phases.{standing_in, HasLogRoom, IsLater}
use Rattle.rb_super_turn.specs.AsEvents.{most_events}
use Rattle.rb_super_turn.specs.Turns.{after_all, reports_of_all}
use Rattle.rb_core.specs.Core.{Core}
use Rattle.rb_script_types.specs.Config.{Config}
use Rattle.rb_super_turn.specs.Views.{refused_view, client_report_view, settlement_view}
use Rattle.rb_super_turn.proofs.Whole.{turn_done}
use Rattle.rb_super.proofs.parallel.ParallelSupervisor.turn.Goals as goal

pub prepare-requires-clause-hosts : goal.prepare-requires-clause-hosts
prepare-requires-clause-hosts g c = λ ks _.
    subst (λ (ws : List HostWindow). All (λ (x : HostWindow). x.host < length c.self.inside.relayer.config.chains) ws) (sym c.as_slice.ensures.value)
    (subst (λ (k : Core). All (λ (x : HostWindow). x.host < length k.config.chains) c.args.turn.windows.items) (sym c.self.view_is) (λ k d lt. (c.requires.turn.windows k d lt).0))

pub prepare-requires-clause-goals : goal.prepare-requires-clause-goals
prepare-requires-clause-goals g c = λ ks _.
    subst (λ (gs : List Asked). All (λ (x : Asked). x.client < length c.self.inside.relayer.config.clients) gs) (sym c.as_slice-2.ensures.value)
    (subst (λ (k : Core). All (λ (x : Asked). x.client < length k.config.clients) c.args.turn.goals.items) (sym c.self.view_is) c.requires.turn.goals)

pub prepare-requires-clause-events : goal.prepare-requires-clause-events
prepare-requires-clause-events g c = λ ks _.
    subst (λ (k : Core). All (IsReadObservation (length k.config.chains) (length k.config.clients) (length k.config.paths)) c.args.turn.events.items) (sym c.self.view_is) c.requires.turn.events

pub plan-requires-clause-room : goal.plan-requires-clause-room
plan-requires-clause-room g c = λ ks _.
    let room = subst (λ (k : Core). HasLogRoom k (most_events k.config c.args.turn)) (sym c.self.view_is) c.requires.room in
    let p = c.in_ok-relayer.ensures.later.front in
    let clients = ap (λ (k : Config). length k.clients) c.in_ok-relayer.ensures.later.config in
    let windows = ap length c.as_slice.ensures.value in
    let goals = ap length c.as_slice-2.ensures.value in
    omega arith

pub settle_turn-settled-requires-clause-clients : goal.settle_turn-settled-requires-clause-clients
settle_turn-settled-requires-clause-clients g c =
    let same : c.in_ok-relayer-2.relayer.config ≡ c.args.self.config = c.in_ok-relayer-2.ensures.later.config ∙ c.in_ok-relayer.ensures.later.config ∙ ap (λ (k : Core). k.config) c.self.view_is in
    subst (λ (xs : List Settlement). All (λ (x : Settlement). x.client < length c.in_ok-relayer-2.relayer.config.clients) xs) (sym c.as_slice-3.ensures.value)
    (subst (λ (k : Config). All (λ (x : Settlement). x.client < length k.clients) c.args.turn.settlements.items) (sym same) c.requires.turn.settlements)

pub settle_turn-settled-requires-clause-room : goal.settle_turn-settled-requires-clause-room
settle_turn-settled-requires-clause-room g c =
    let room = subst (λ (k : Core). HasLogRoom k (most_events k.config c.args.turn)) (sym c.self.view_is) c.requires.room in
    let p = c.in_ok-relayer.ensures.later.front in
    let q = c.in_ok-relayer-2.ensures.later.front in
    let clients = ap (λ (k : Config). length k.clients) c.in_ok-relayer.ensures.later.config in
    let planned = ap (λ (k : Config). length k.clients) c.in_ok-relayer-2.ensures.later.config in
    let windows = ap length c.as_slice.ensures.value in
    let goals = ap length c.as_slice-2.ensures.value in
    let settlements = ap length c.as_slice-3.ensures.value in
    omega arith

pub returns-clause-report : goal.returns-clause-report
returns-clause-report g c =
    let given = c.in_ok-relayer-3.ensures.given in
    let d = c.in_ok-relayer-2.relayer in
    let e = c.settle_turn-settled.new.relayer in
    rw (sym c.self.view_is) ((turn_done c.self.inside.relayer c.in_ok-relayer.relayer d e c.args.turn c.as_slice.result.now c.as_slice-2.result.now c.as_slice-3.result.now
    c.in_ok-relayer.heard.window_back c.in_ok-relayer.heard.hosts_back.items (map refused_view c.in_ok-relayer.heard.refused.items) (map client_report_view c.in_ok-relayer-2.clients.items) (map settlement_view c.in_ok-relayer-3.settlements.items)
    c.as_slice.ensures.value c.as_slice-2.ensures.value c.as_slice-3.ensures.value c.in_ok-relayer.ensures.back c.in_ok-relayer.ensures.hosts c.in_ok-relayer.ensures.refused c.in_ok-relayer.ensures.standing
    (length-map c.in_ok-relayer-2.clients.items client_report_view ∙ c.in_ok-relayer-2.ensures.count ∙ ap (λ (k : Config). length k.clients) c.in_ok-relayer.ensures.later.config)
    c.in_ok-relayer-2.ensures.reports
    (subst (λ r. IfOk r (λ xs. map settlement_view xs.items ≡ reports_of_all c.as_slice-3.result.now c.args.turn.taken (standing_in d))) given c.settle_turn-settled.ensures.reports)
    (subst (λ r. OnOk r (standing_in e ≡ after_all c.as_slice-3.result.now c.args.turn.taken (standing_in d))) given c.settle_turn-settled.ensures.standing)).0)

pub returns-clause-standing : goal.returns-clause-standing
returns-clause-standing g c =
    let given = c.in_ok-relayer-3.ensures.given in
    let d = c.in_ok-relayer-2.relayer in
    let e = c.settle_turn-settled.new.relayer in
    ap standing_in c.in_ok-relayer-3.ensures.same
    ∙ rw (sym c.self.view_is) ((turn_done c.self.inside.relayer c.in_ok-relayer.relayer d e c.args.turn c.as_slice.result.now c.as_slice-2.result.now c.as_slice-3.result.now
    c.in_ok-relayer.heard.window_back c.in_ok-relayer.heard.hosts_back.items (map refused_view c.in_ok-relayer.heard.refused.items) (map client_report_view c.in_ok-relayer-2.clients.items) (map settlement_view c.in_ok-relayer-3.settlements.items)
    c.as_slice.ensures.value c.as_slice-2.ensures.value c.as_slice-3.ensures.value c.in_ok-relayer.ensures.back c.in_ok-relayer.ensures.hosts c.in_ok-relayer.ensures.refused c.in_ok-relayer.ensures.standing
    (length-map c.in_ok-relayer-2.clients.items client_report_view ∙ c.in_ok-relayer-2.ensures.count ∙ ap (λ (k : Config). length k.clients) c.in_ok-relayer.ensures.later.config)
    c.in_ok-relayer-2.ensures.reports
    (subst (λ r. IfOk r (λ xs. map settlement_view xs.items ≡ reports_of_all c.as_slice-3.result.now c.args.turn.taken (standing_in d))) given c.settle_turn-settled.ensures.reports)
    (subst (λ r. OnOk r (standing_in e ≡ after_all c.as_slice-3.result.now c.args.turn.taken (standing_in d))) given c.settle_turn-settled.ensures.standing)).1)

pub returns-clause-later : goal.returns-clause-later
returns-clause-later g c =
    let settled = subst (λ r. OnOk r (IsLater (length c.as_slice-3.result.now + length c.in_ok-relayer-2.relayer.config.clients) c.in_ok-relayer-2.relayer c.settle_turn-settled.new.relayer)) c.in_ok-relayer-3.ensures.given c.settle_turn-settled.ensures.later in
    let p = c.in_ok-relayer.ensures.later.front in
    let q = c.in_ok-relayer-2.ensures.later.front in
    let r = settled.front in
    let clients = ap (λ (k : Config). length k.clients) c.in_ok-relayer.ensures.later.config in
    let planned = ap (λ (k : Config). length k.clients) c.in_ok-relayer-2.ensures.later.config in
    let windows = ap length c.as_slice.ensures.value in
    let goals = ap length c.as_slice-2.ensures.value in
    let settlements = ap length c.as_slice-3.ensures.value in
    subst (λ (k : Core). IsLater (most_events k.config c.args.turn) k c.in_ok-relayer-3.relayer) c.self.view_is
    (subst (IsLater (most_events c.self.inside.relayer.config c.args.turn) c.self.inside.relayer) (sym c.in_ok-relayer-3.ensures.same)
    (record { config = settled.config ∙ c.in_ok-relayer-2.ensures.later.config ∙ c.in_ok-relayer.ensures.later.config; front = omega arith }))
