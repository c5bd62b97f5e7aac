use Rattle.std.proofs.Common.{List, map, refl, sym, subst}
use Rattle.rb_core_model.specs.Standing.{Standing}
use Rattle.rb_script_types.specs.Config.{config_view}
use Rattle.rb_script_types.specs.Script.{script_view}
use Rattle.rb_super_turn.specs.Script.{Turn}
use Rattle.rb_super_turn.specs.Turns.{AreTurnReports}
use Rattle.rb_super_turn.specs.Views.{turn_report_view}
use Rattle.rb_super_turn.proofs.Runs.{opened_standing, turns_fit, turns_for, turns_as_events}
use Rattle.rb_super.proofs.run.run_by_team.Goals as goal

pub turns_by_workers-requires-clause-turns : goal.turns_by_workers-requires-clause-turns
turns_by_workers-requires-clause-turns g c = λ ks _.
    turns_for (script_view c.args.script) c.in_ok-team.team c.args.script.turns.items c.in_ok-team.ensures.config refl c.requires.script

pub turns_by_workers-requires-clause-room : goal.turns_by_workers-requires-clause-room
turns_by_workers-requires-clause-room g c = λ ks _.
    turns_fit c.in_ok-team.team (script_view c.args.script) c.args.script.turns.items c.in_ok-team.ensures.config c.in_ok-team.ensures.log refl c.requires.script

pub returns-clause-turns : goal.returns-clause-turns
returns-clause-turns g c =
    let turns = c.args.script.turns.items in
    let reports = map turn_report_view c.in_ok-turns.turns.items in
    let opened = opened_standing c.in_ok-team.team (config_view c.args.script.config) c.in_ok-team.ensures.config c.in_ok-team.ensures.log in
    subst (λ (p : Standing × List Turn). AreTurnReports p.0 p.1 reports) (λ i. (opened i, sym (turns_as_events turns) i)) c.in_ok-turns.ensures
