use Rattle.std.proofs.Common.{List, OnOk, refl, sym, subst}
use Rattle.rb_core_model.specs.Standing.{Standing}
use Rattle.rb_script_types.specs.Config.{config_view}
use Rattle.rb_script_types.specs.Script.{script_view}
use Rattle.rb_super_turn.proofs.Runs.{opened_standing, turns_as_events, turns_fit, turns_for}
use Rattle.rb_super_turn.specs.Script.{Turn}
use Rattle.rb_explain.specs.Listening.{IsGivenAll}
use Rattle.rb_explain.proofs.run.explain_script.Goals as goal

pub explain_turns-requires-clause-turns : goal.explain_turns-requires-clause-turns
explain_turns-requires-clause-turns g c = λ ks _.
    turns_for (script_view c.args.script) c.in_ok-relayer.relayer c.args.script.turns.items c.in_ok-relayer.ensures.config refl c.requires.script

pub explain_turns-requires-clause-room : goal.explain_turns-requires-clause-room
explain_turns-requires-clause-room g c = λ ks _.
    turns_fit c.in_ok-relayer.relayer (script_view c.args.script) c.args.script.turns.items c.in_ok-relayer.ensures.config c.in_ok-relayer.ensures.log refl c.requires.script

pub returns : goal.returns
returns g c =
    let turns = c.args.script.turns.items in
    let old = g.L.Listener.explanations c.args.listener.now in
    let new = g.L.Listener.explanations c.explain_turns.new.listener in
    let opened = opened_standing c.in_ok-relayer.relayer (config_view c.args.script.config) c.in_ok-relayer.ensures.config c.in_ok-relayer.ensures.log in
    subst (λ (p : Standing × List Turn). OnOk c.explain_turns.result (IsGivenAll c.args.wanted.now p.0 p.1 old new)) (λ i. (opened i, sym (turns_as_events turns) i)) c.explain_turns.ensures
