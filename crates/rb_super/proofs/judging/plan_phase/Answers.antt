use Rattle.std.proofs.Common.{length, refl, sym, ap, ◌∙◌, subst}
use Rattle.rb_script_types.specs.Config.{Config}
use Rattle.rb_script_types.specs.Script.{script_view}
use Rattle.rb_super_turn.specs.Phases.{standing_in, HasLogRoom}
use Rattle.rb_super.proofs.Earlier.{earlier_for, earlier_fit, this_for, this_fits, phase_there}
use Rattle.rb_super.proofs.judging.plan_phase.Goals as goal

pub run_turns-requires-clause-turns : goal.run_turns-requires-clause-turns
run_turns-requires-clause-turns g c = λ ks _.
    earlier_for (script_view c.args.script) c.in_ok-supervisor.supervisor c.args.script.turns.items c.in_ok-supervisor.ensures.config c.in_ok-supervisor.ensures.log refl c.requires.script
    c.args.turn c.requires.turn c.turns_to-earlier.result.0.items c.turns_to-earlier.ensures.before c.turns_to-earlier.result.1 c.turns_to-earlier.ensures.there

pub run_turns-requires-clause-room : goal.run_turns-requires-clause-room
run_turns-requires-clause-room g c = λ ks _.
    earlier_fit (script_view c.args.script) c.in_ok-supervisor.supervisor c.args.script.turns.items c.in_ok-supervisor.ensures.config c.in_ok-supervisor.ensures.log refl c.requires.script
    c.args.turn c.requires.turn c.turns_to-earlier.result.0.items c.turns_to-earlier.ensures.before c.turns_to-earlier.result.1 c.turns_to-earlier.ensures.there

pub plan_phase-requires-clause-turn : goal.plan_phase-requires-clause-turn
plan_phase-requires-clause-turn g c = λ ks _.
    this_for (script_view c.args.script) c.in_ok-supervisor.supervisor c.args.script.turns.items c.in_ok-supervisor.ensures.config c.in_ok-supervisor.ensures.log refl c.requires.script
    c.args.turn c.requires.turn c.turns_to-earlier.result.0.items c.turns_to-earlier.ensures.before c.turns_to-earlier.result.1 c.turns_to-earlier.ensures.there
    c.in_ok-begun.begun c.in_ok-begun.ensures.later.config

pub plan_phase-requires-clause-room : goal.plan_phase-requires-clause-room
plan_phase-requires-clause-room g c = λ ks _.
    this_fits (script_view c.args.script) c.in_ok-supervisor.supervisor c.args.script.turns.items c.in_ok-supervisor.ensures.config c.in_ok-supervisor.ensures.log refl c.requires.script
    c.args.turn c.requires.turn c.turns_to-earlier.result.0.items c.turns_to-earlier.ensures.before c.turns_to-earlier.result.1 c.turns_to-earlier.ensures.there
    c.in_ok-begun.begun c.in_ok-begun.ensures.later

pub returns-clause-phase : goal.returns-clause-phase
returns-clause-phase g c =
    phase_there (script_view c.args.script) c.in_ok-supervisor.supervisor c.args.script.turns.items c.in_ok-supervisor.ensures.config c.in_ok-supervisor.ensures.log refl c.requires.script
    c.args.turn c.requires.turn c.turns_to-earlier.result.0.items c.turns_to-earlier.ensures.before c.turns_to-earlier.result.1 c.turns_to-earlier.ensures.there
    (standing_in c.in_ok-begun.begun) (standing_in c.in_ok-relayer.relayer) c.in_ok-begun.ensures.leads c.in_ok-relayer.ensures.standing

pub returns-clause-clients : goal.returns-clause-clients
returns-clause-clients g c =
    ap (λ (k : Config). length k.clients) (c.in_ok-relayer.ensures.config ∙ c.in_ok-begun.ensures.later.config ∙ c.in_ok-supervisor.ensures.config)

pub returns-clause-room : goal.returns-clause-room
returns-clause-room g c =
    subst (λ (k : Config). HasLogRoom c.in_ok-relayer.relayer (length k.clients)) (sym c.in_ok-relayer.ensures.config) c.in_ok-relayer.ensures.room
