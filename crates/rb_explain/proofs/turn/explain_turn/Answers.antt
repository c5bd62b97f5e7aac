use Rattle.std.proofs.Common.{◌≡◌, ◌<◌, Bool, List, length, map, sym, ap, ◌∙◌, subst, arith}
use Rattle.std.specs.List.{All}
use Rattle.std.proofs.lemmas.List.{length-map}
use Rattle.rb_core.specs.Core.{Core, state_in}
use Rattle.rb_script_types.specs.Config.{Config}
use Rattle.rb_script_types.specs.declared.script.Asked.{Asked}
use Rattle.rb_script_types.specs.declared.script.HostWindow.{HostWindow}
use Rattle.rb_script_types.specs.declared.script.Settlement.{Settlement}
use Rattle.rb_super_turn.specs.AsEvents.{code_turn_as_events}
use Rattle.rb_super_turn.specs.Phases.{standing_in, turn_heard, IsPlannable}
use Rattle.rb_super_turn.specs.Turns.{after_turn, before_plans, IsTurnReport}
use Rattle.rb_super_turn.specs.Views.{refused_view, client_report_view, settlement_view}
use Rattle.rb_super_turn.proofs.Whole.{turn_done}
use Rattle.rb_core_model.specs.Seen.{observed}
use Rattle.rb_script_types.specs.declared.observation.Observation.{Observation}
use Rattle.rb_explain.specs.Subjects.{AreSubjects}
use Rattle.rb_explain.specs.Turn.{AreJobs}
use Rattle.rb_explain.specs.Wanted.{has_client, has_turn}
use Rattle.rb_explain.specs.declared.refused.Subject.{Subject}
use Rattle.rb_explain.proofs.Jobs.{as_many, explained_as, jobs_right, reports_here, right_as, turn_explained}
use Rattle.rb_explain.proofs.turn.explain_turn.Goals as goal

pub prepare-requires-clause-hosts : goal.prepare-requires-clause-hosts
prepare-requires-clause-hosts g c = λ ks _.
    subst (λ (ws : List HostWindow). All (λ (x : HostWindow). x.host < length c.args.relayer.now.config.chains) ws) (sym c.as_slice-2.ensures.value) (λ k d lt. (c.requires.turn.windows k d lt).0)

pub prepare-requires-clause-goals : goal.prepare-requires-clause-goals
prepare-requires-clause-goals g c = λ ks _.
    subst (λ (gs : List Asked). All (λ (x : Asked). x.client < length c.args.relayer.now.config.clients) gs) (sym c.as_slice-3.ensures.value) c.requires.turn.goals

pub prepare-requires-clause-events : goal.prepare-requires-clause-events
prepare-requires-clause-events g c = λ ks _. c.requires.turn.events

pub see_all-requires-clause-window : goal.see_all-requires-clause-window
see_all-requires-clause-window g c = λ ks _. c.in_ok-heard.ensures.ready.window

pub plan_all-requires-clause-ready : goal.plan_all-requires-clause-ready
plan_all-requires-clause-ready g c = λ ks _. subst IsPlannable (sym c.see_all.ensures.same) c.in_ok-heard.ensures.ready

pub plan_all-requires-clause-room : goal.plan_all-requires-clause-room
plan_all-requires-clause-room g c = λ ks _.
    let room = c.requires.room in
    let p = c.in_ok-heard.ensures.later.front in
    let clients = ap (λ (k : Config). length k.clients) c.in_ok-heard.ensures.later.config in
    let windows = ap length c.as_slice-2.ensures.value in
    let goals = ap length c.as_slice-3.ensures.value in
    let front = ap (λ (k : Core). (state_in k).front) c.see_all.ensures.same in
    let seen = ap (λ (k : Core). length k.config.clients) c.see_all.ensures.same in
    omega arith

pub settle_turn-requires-clause-clients : goal.settle_turn-requires-clause-clients
settle_turn-requires-clause-clients g c =
    let same : c.plan_all.new.relayer.config ≡ c.args.relayer.now.config = c.in_ok-clients.ensures.later.config ∙ ap (λ (k : Core). k.config) c.see_all.ensures.same ∙ c.in_ok-heard.ensures.later.config in
    subst (λ (xs : List Settlement). All (λ (x : Settlement). x.client < length c.plan_all.new.relayer.config.clients) xs) (sym c.as_slice-4.ensures.value)
    (subst (λ (k : Config). All (λ (x : Settlement). x.client < length k.clients) c.args.turn.settlements.items) (sym same) c.requires.turn.settlements)

pub settle_turn-requires-clause-room : goal.settle_turn-requires-clause-room
settle_turn-requires-clause-room g c =
    let room = c.requires.room in
    let p = c.in_ok-heard.ensures.later.front in
    let q = c.in_ok-clients.ensures.later.front in
    let clients = ap (λ (k : Config). length k.clients) c.in_ok-heard.ensures.later.config in
    let planned = ap (λ (k : Config). length k.clients) c.in_ok-clients.ensures.later.config in
    let windows = ap length c.as_slice-2.ensures.value in
    let goals = ap length c.as_slice-3.ensures.value in
    let front = ap (λ (k : Core). (state_in k).front) c.see_all.ensures.same in
    let seen = ap (λ (k : Core). length k.config.clients) c.see_all.ensures.same in
    let settlements = ap length c.as_slice-4.ensures.value in
    omega arith

pub explain_all-requires-clause-long : goal.explain_all-requires-clause-long
explain_all-requires-clause-long g c =
    ap length c.as_slice-5.ensures.value
    ∙ as_many c.prepare.new.relayer (has_client c.args.wanted.now c.args.number) c.in_ok-seen.seen.items c.in_ok-clients.clients.items c.in_ok-seen.ensures.seen
    (c.in_ok-clients.ensures.count ∙ ap (λ (k : Core). length k.config.clients) c.see_all.ensures.same)
    ∙ sym (ap length c.as_slice-6.ensures.value)

pub explain_all-requires-clause-right : goal.explain_all-requires-clause-right
explain_all-requires-clause-right g c =
    let s = standing_in c.args.relayer.now in
    let turn = code_turn_as_events c.args.turn in
    let done = (turn_done c.args.relayer.now c.see_all.new.relayer c.plan_all.new.relayer c.settle_turn.new.relayer c.args.turn c.as_slice-2.result.now c.as_slice-3.result.now c.as_slice-4.result.now
    c.in_ok-heard.heard.window_back c.in_ok-heard.heard.hosts_back.items (map refused_view c.in_ok-heard.heard.refused.items) (map client_report_view c.in_ok-clients.clients.items) (map settlement_view c.in_ok-settled.settled.items)
    c.as_slice-2.ensures.value c.as_slice-3.ensures.value c.as_slice-4.ensures.value c.in_ok-heard.ensures.back c.in_ok-heard.ensures.hosts c.in_ok-heard.ensures.refused
    (ap standing_in c.see_all.ensures.same ∙ c.in_ok-heard.ensures.standing)
    (length-map c.in_ok-clients.clients.items client_report_view ∙ c.in_ok-clients.ensures.count ∙ ap (λ (k : Core). length k.config.clients) c.see_all.ensures.same
    ∙ ap (λ (k : Config). length k.clients) c.in_ok-heard.ensures.later.config)
    c.in_ok-clients.ensures.reports
    c.in_ok-settled.ensures.reports c.in_ok-settled.ensures.standing).0 in
    let stands : standing_in c.prepare.new.relayer ≡ before_plans s turn = c.in_ok-heard.ensures.standing ∙ (λ i. before_plans s (turn_heard c.args.turn.window (c.as_slice-2.ensures.value i) (c.as_slice-3.ensures.value i) c.args.turn.events.items)) in
    right_as (sym c.as_slice-5.ensures.value) (sym c.as_slice-6.ensures.value)
    (jobs_right c.prepare.new.relayer (has_client c.args.wanted.now c.args.number) c.in_ok-seen.seen.items c.in_ok-clients.clients.items c.in_ok-heard.ensures.ready c.in_ok-seen.ensures.seen
    (reports_here c.prepare.new.relayer s turn (map client_report_view c.in_ok-clients.clients.items) stands done.clients))

pub returns-clause-right : goal.returns-clause-right
returns-clause-right g c =
    let s = standing_in c.args.relayer.now in
    let turn = code_turn_as_events c.args.turn in
    let x = c.new-explanation.result in
    let done = (turn_done c.args.relayer.now c.see_all.new.relayer c.plan_all.new.relayer c.settle_turn.new.relayer c.args.turn c.as_slice-2.result.now c.as_slice-3.result.now c.as_slice-4.result.now
    c.in_ok-heard.heard.window_back c.in_ok-heard.heard.hosts_back.items (map refused_view c.in_ok-heard.heard.refused.items) (map client_report_view c.in_ok-clients.clients.items) (map settlement_view c.in_ok-settled.settled.items)
    c.as_slice-2.ensures.value c.as_slice-3.ensures.value c.as_slice-4.ensures.value c.in_ok-heard.ensures.back c.in_ok-heard.ensures.hosts c.in_ok-heard.ensures.refused
    (ap standing_in c.see_all.ensures.same ∙ c.in_ok-heard.ensures.standing)
    (length-map c.in_ok-clients.clients.items client_report_view ∙ c.in_ok-clients.ensures.count ∙ ap (λ (k : Core). length k.config.clients) c.see_all.ensures.same
    ∙ ap (λ (k : Config). length k.clients) c.in_ok-heard.ensures.later.config)
    c.in_ok-clients.ensures.reports
    c.in_ok-settled.ensures.reports c.in_ok-settled.ensures.standing).0 in
    let stands : standing_in c.prepare.new.relayer ≡ before_plans s turn = c.in_ok-heard.ensures.standing ∙ (λ i. before_plans s (turn_heard c.args.turn.window (c.as_slice-2.ensures.value i) (c.as_slice-3.ensures.value i) c.args.turn.events.items)) in
    turn_explained c.prepare.new.relayer s turn c.args.wanted.now c.in_ok-seen.seen.items x c.in_ok-heard.ensures.ready stands
    (subst (λ n. AreJobs (state_in c.prepare.new.relayer) (has_client c.args.wanted.now n) c.in_ok-seen.seen.items) (sym c.new-explanation.ensures.turn) c.in_ok-seen.ensures.seen)
    c.new-explanation.ensures.window
    (subst (λ (xs : List Subject). AreSubjects (has_turn c.args.wanted.now x.turn) turn.events xs) (sym c.new-explanation.ensures.subjects)
    (subst (λ (b : Bool). AreSubjects b turn.events c.in_ok-subjects.subjects.items) (c.has_turn.ensures ∙ ap (has_turn c.args.wanted.now) (sym c.new-explanation.ensures.turn))
    (subst (λ (os : List (Observation _)). AreSubjects c.has_turn.result (map observed os) c.in_ok-subjects.subjects.items) c.as_slice.ensures.value c.in_ok-subjects.ensures)))
    (subst (IsTurnReport s turn) (sym (c.new-explanation.ensures.report ∙ c.report_of-report.ensures.view)) done)
    (ap length c.new-explanation.ensures.clients ∙ c.in_ok-explained.ensures.count ∙ ap length c.as_slice-5.ensures.value)
    (as_many c.prepare.new.relayer (has_client c.args.wanted.now c.args.number) c.in_ok-seen.seen.items c.in_ok-clients.clients.items c.in_ok-seen.ensures.seen
    (c.in_ok-clients.ensures.count ∙ ap (λ (k : Core). length k.config.clients) c.see_all.ensures.same)
    ∙ sym (ap length (c.new-explanation.ensures.reports ∙ c.report_of-report.ensures.clients)))
    (explained_as c.as_slice-5.ensures.value (c.as_slice-6.ensures.value ∙ sym (c.new-explanation.ensures.reports ∙ c.report_of-report.ensures.clients)) (sym c.new-explanation.ensures.clients)
    c.in_ok-explained.ensures.explained)

pub returns-clause-standing : goal.returns-clause-standing
returns-clause-standing g c =
    let s = standing_in c.args.relayer.now in
    let turn = code_turn_as_events c.args.turn in
    let done = (turn_done c.args.relayer.now c.see_all.new.relayer c.plan_all.new.relayer c.settle_turn.new.relayer c.args.turn c.as_slice-2.result.now c.as_slice-3.result.now c.as_slice-4.result.now
    c.in_ok-heard.heard.window_back c.in_ok-heard.heard.hosts_back.items (map refused_view c.in_ok-heard.heard.refused.items) (map client_report_view c.in_ok-clients.clients.items) (map settlement_view c.in_ok-settled.settled.items)
    c.as_slice-2.ensures.value c.as_slice-3.ensures.value c.as_slice-4.ensures.value c.in_ok-heard.ensures.back c.in_ok-heard.ensures.hosts c.in_ok-heard.ensures.refused
    (ap standing_in c.see_all.ensures.same ∙ c.in_ok-heard.ensures.standing)
    (length-map c.in_ok-clients.clients.items client_report_view ∙ c.in_ok-clients.ensures.count ∙ ap (λ (k : Core). length k.config.clients) c.see_all.ensures.same
    ∙ ap (λ (k : Config). length k.clients) c.in_ok-heard.ensures.later.config)
    c.in_ok-clients.ensures.reports
    c.in_ok-settled.ensures.reports c.in_ok-settled.ensures.standing).1 in
    done ∙ ap (after_turn s turn) (sym (c.new-explanation.ensures.report ∙ c.report_of-report.ensures.view))

pub returns-clause-later : goal.returns-clause-later
returns-clause-later g c =
    let p = c.in_ok-heard.ensures.later.front in
    let q = c.in_ok-clients.ensures.later.front in
    let r = c.in_ok-settled.ensures.later.front in
    let clients = ap (λ (k : Config). length k.clients) c.in_ok-heard.ensures.later.config in
    let planned = ap (λ (k : Config). length k.clients) c.in_ok-clients.ensures.later.config in
    let windows = ap length c.as_slice-2.ensures.value in
    let goals = ap length c.as_slice-3.ensures.value in
    let front = ap (λ (k : Core). (state_in k).front) c.see_all.ensures.same in
    let seen = ap (λ (k : Core). length k.config.clients) c.see_all.ensures.same in
    let settlements = ap length c.as_slice-4.ensures.value in
    record {
      config = c.in_ok-settled.ensures.later.config ∙ c.in_ok-clients.ensures.later.config ∙ ap (λ (k : Core). k.config) c.see_all.ensures.same ∙ c.in_ok-heard.ensures.later.config;
      front = omega arith;
    }
