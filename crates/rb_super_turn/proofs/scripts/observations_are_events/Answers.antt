use Rattle.rb_script_types.specs.declared.observation.Observation.{Observation}
use Rattle.rb_core_model.specs.Event.{IsEvent}
use Rattle.rb_core_model.specs.Seen.{observed}
use Rattle.rb_super_turn.proofs.AsEventsLemmas.{all_taken, one_more}
use Rattle.rb_super_turn.proofs.scripts.observations_are_events.Goals as goal

pub loop-observation-preserved : goal.loop-observation-preserved
loop-observation-preserved g c =
    one_more (λ (o : Observation _). IsEvent (observed o)) c.args.observations.now c.loop-observation.observation-index c.observation-item.result
    c.loop-observation-test.true c.observation-item.is c.observation_is_event.ensures c.loop-observation.invariant

pub returns : goal.returns
returns g c =
    all_taken (λ (o : Observation _). IsEvent (observed o)) c.args.observations.now c.loop-observation.observation-index
    c.loop-observation.auto.observation-index-end c.loop-observation-test.false c.loop-observation.invariant
