use Rattle.std.proofs.Common.{List, map, refl, sym, ap, ◌∙◌, subst}
use Rattle.rb_core.specs.Core.{Core}
use Rattle.rb_core_model.specs.Standing.{Standing, opening_standing}
use Rattle.rb_script_types.specs.Config.{config_view}
use Rattle.rb_script_types.specs.Script.{script_view, turn_view}
use Rattle.rb_super_turn.specs.Script.{Turn}
use Rattle.rb_super_turn.specs.AsEvents.{turn_as_events}
use Rattle.rb_super_turn.specs.Judging.{Leads}
use Rattle.rb_super_turn.specs.Phases.{standing_in}
use Rattle.rb_super_turn.specs.Turns.{AreTurnReports}
use Rattle.rb_super_turn.specs.Views.{turn_report_view}
use Rattle.rb_super_turn.proofs.Runs.{opened_standing, turns_fit, turns_for, turns_as_events}
use Rattle.rb_super.proofs.run.run_to_end.Goals as goal

pub run_turns-requires-clause-turns : goal.run_turns-requires-clause-turns
run_turns-requires-clause-turns g c = λ ks _.
    turns_for (script_view c.args.script) c.in_ok-supervisor.supervisor c.args.script.turns.items c.in_ok-supervisor.ensures.config refl c.requires.script

pub run_turns-requires-clause-room : goal.run_turns-requires-clause-room
run_turns-requires-clause-room g c = λ ks _.
    turns_fit c.in_ok-supervisor.supervisor (script_view c.args.script) c.args.script.turns.items c.in_ok-supervisor.ensures.config c.in_ok-supervisor.ensures.log refl c.requires.script

pub returns-clause-turns : goal.returns-clause-turns
returns-clause-turns g c =
    let turns = c.args.script.turns.items in
    let reports = map turn_report_view c.in_ok-turns.turns.items in
    let opened = opened_standing c.in_ok-supervisor.supervisor (config_view c.args.script.config) c.in_ok-supervisor.ensures.config c.in_ok-supervisor.ensures.log in
    subst (λ (p : Standing × List Turn). AreTurnReports p.0 p.1 reports) (λ i. (opened i, sym (turns_as_events turns) i)) c.in_ok-turns.ensures.reports

pub returns-clause-config : goal.returns-clause-config
returns-clause-config g c = ap (λ (k : Core). k.config) c.stop.ensures ∙ c.in_ok-turns.ensures.later.config ∙ c.in_ok-supervisor.ensures.config

pub returns-clause-end : goal.returns-clause-end
returns-clause-end g c =
    let turns = c.args.script.turns.items in
    let opened = opened_standing c.in_ok-supervisor.supervisor (config_view c.args.script.config) c.in_ok-supervisor.ensures.config c.in_ok-supervisor.ensures.log in
    let leads = subst (λ (p : Standing × List Turn). Leads p.0 p.1 (standing_in c.in_ok-turns.ended)) (λ i. (opened i, sym (turns_as_events turns) i)) c.in_ok-turns.ensures.leads in
    subst (λ k. Leads (opening_standing (config_view c.args.script.config)) (map turn_as_events (map turn_view turns)) (standing_in k)) (sym c.stop.ensures) leads
