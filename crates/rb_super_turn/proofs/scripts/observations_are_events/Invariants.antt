use Rattle.std.proofs.Common.{All, take}
use Rattle.rb_script_types.specs.declared.observation.Observation.{Observation}
use Rattle.rb_core_model.specs.Event.{IsEvent}
use Rattle.rb_core_model.specs.Seen.{observed}
use Rattle.rb_super_turn.proofs.scripts.observations_are_events.Given as goal

abbrev pub invariant-loop-observation : goal.invariant-loop-observation
invariant-loop-observation g l = All (λ (o : Observation _). IsEvent (observed o)) (take l.observation-index l.observations)
