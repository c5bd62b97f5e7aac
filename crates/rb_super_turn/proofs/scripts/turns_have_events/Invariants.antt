use Rattle.std.proofs.Common.{All, take}
use Rattle.rb_script_types.specs.declared.observation.Observation.{Observation}
use Rattle.rb_script_types.specs.declared.script.Turn.{Turn}
use Rattle.rb_core_model.specs.Event.{IsEvent}
use Rattle.rb_core_model.specs.Seen.{observed}
use Rattle.rb_super_turn.proofs.scripts.turns_have_events.Given as goal

abbrev pub invariant-loop-turn : goal.invariant-loop-turn
invariant-loop-turn g l = All (λ (t : Turn _). All (λ (o : Observation _). IsEvent (observed o)) t.events.items) (take l.turn-index l.turns)
