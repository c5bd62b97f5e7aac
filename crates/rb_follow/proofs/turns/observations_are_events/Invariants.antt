use Rattle.std.proofs.Common.{All, take}
use Rattle.std.specs.declared.alloc.Global.{Global}
use Rattle.rb_script_types.specs.declared.observation.Observation.{Observation}
use Rattle.rb_core_model.specs.Event.{IsEvent}
use Rattle.rb_core_model.specs.Seen.{observed}
use Rattle.rb_follow.proofs.turns.observations_are_events.Given as goal

abbrev pub invariant-loop-observation : goal.invariant-loop-observation
invariant-loop-observation l = All (λ (o : Observation Global). IsEvent (observed o)) (take l.observation-index l.observations)
