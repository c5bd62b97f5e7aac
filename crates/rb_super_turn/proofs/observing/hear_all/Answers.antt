use Rattle.std.proofs.Common.{◌≡◌, ◌<◌, All, is_some, fold, map, length, refl, sym, ap, ◌∙◌, subst, arith}
use Rattle.rb_core_model.specs.Seen.{observed}
use Rattle.rb_core_model.specs.Standing.{Standing, goes_back}
use Rattle.rb_script_types.specs.Config.{Config}
use Rattle.rb_script_types.specs.Script.{IsReadObservation}
use Rattle.rb_script_types.specs.declared.script.Asked.{Asked}
use Rattle.rb_super_turn.specs.Phases.{standing_in}
use Rattle.rb_super_turn.specs.Turns.{after_host_window}
use Rattle.rb_super_turn.proofs.Loops.{entered, prepared, refused_in}
use Rattle.rb_super_turn.proofs.Order.{hosts_keep}
use Rattle.rb_super_turn.proofs.observing.hear_all.Goals as goal

pub ask_all-requires-clause-clients : goal.ask_all-requires-clause-clients
ask_all-requires-clause-clients g c =
    subst (λ (k : Config). All (λ (q : Asked). q.client < length k.clients) c.args.goals.now) (sym (c.in_ok-window_back.ensures.later.config ∙ c.in_ok-hosts_back.ensures.later.config)) c.requires.goals

pub observe_all-requires-clause-seen : goal.observe_all-requires-clause-seen
observe_all-requires-clause-seen g c =
    subst (λ (k : Config). All (IsReadObservation (length k.chains) (length k.clients) (length k.paths)) c.args.events.items)
    (sym (c.in_ok-ask_all.ensures.later.config ∙ c.in_ok-window_back.ensures.later.config ∙ c.in_ok-hosts_back.ensures.later.config)) c.requires.events

pub returns-clause-back : goal.returns-clause-back
returns-clause-back g c =
    c.in_ok-window_back.ensures.back
    ∙ ap (λ (s : Standing). goes_back s.window c.args.window) c.in_ok-hosts_back.ensures.standing
    ∙ ap (λ o. goes_back o c.args.window) (hosts_keep c.args.windows.now (standing_in c.args.relayer.now))

pub returns-clause-refused : goal.returns-clause-refused
returns-clause-refused g c =
    refused_in (standing_in c.args.relayer.now) (standing_in c.enter_hosts.new.relayer) (standing_in c.enter.new.relayer) (standing_in c.ask_all.new.relayer)
    c.args.windows.now c.args.window c.args.goals.now (map observed c.args.events.items) _
    c.in_ok-hosts_back.ensures.standing c.in_ok-window_back.ensures.standing c.in_ok-ask_all.ensures.standing c.in_ok-refused.ensures.refused

pub returns-clause-standing : goal.returns-clause-standing
returns-clause-standing g c =
    prepared (standing_in c.args.relayer.now) (standing_in c.enter_hosts.new.relayer) (standing_in c.enter.new.relayer) (standing_in c.ask_all.new.relayer)
    (standing_in c.observe_all.new.relayer) (standing_in c.observe_all.new.relayer)
    c.args.windows.now c.args.window c.args.goals.now (map observed c.args.events.items)
    c.in_ok-hosts_back.ensures.standing c.in_ok-window_back.ensures.standing c.in_ok-ask_all.ensures.standing c.in_ok-refused.ensures.standing refl

pub returns-clause-entered : goal.returns-clause-entered
returns-clause-entered g c =
    let events = map observed c.args.events.items in
    let same = prepared (standing_in c.args.relayer.now) (standing_in c.enter_hosts.new.relayer) (standing_in c.enter.new.relayer) (standing_in c.ask_all.new.relayer)
    (standing_in c.observe_all.new.relayer) (standing_in c.observe_all.new.relayer)
    c.args.windows.now c.args.window c.args.goals.now events
    c.in_ok-hosts_back.ensures.standing c.in_ok-window_back.ensures.standing c.in_ok-ask_all.ensures.standing c.in_ok-refused.ensures.standing refl in
    ap (λ (s : Standing). is_some s.window) same
    ∙ entered (fold after_host_window (standing_in c.args.relayer.now) c.args.windows.now) c.args.window c.args.goals.now events

pub returns-clause-later : goal.returns-clause-later
returns-clause-later g c =
    let h = c.in_ok-hosts_back.ensures.later in
    let a = c.in_ok-window_back.ensures.later in
    let b = c.in_ok-ask_all.ensures.later in
    let d = c.in_ok-refused.ensures.later in
    let zero = h.front in
    let one = a.front in
    let two = b.front in
    let three = d.front in
    record { config = d.config ∙ b.config ∙ a.config ∙ h.config; front = omega arith }
