use Rattle.std.proofs.Common.{List, All, subst}
use Rattle.rb_script_types.specs.declared.observation.Observation.{Observation}
use Rattle.rb_script_types.specs.declared.script.Turn.{Turn}
use Rattle.rb_core_model.specs.Event.{IsEvent}
use Rattle.rb_core_model.specs.Seen.{observed}
use Rattle.rb_super_turn.proofs.AsEventsLemmas.{all_taken, one_more}
use Rattle.rb_super_turn.proofs.scripts.turns_have_events.Goals as goal

pub loop-turn-preserved : goal.loop-turn-preserved
loop-turn-preserved g c =
    let events = subst (λ (xs : List (Observation _)). All (λ (o : Observation _). IsEvent (observed o)) xs) c.as_slice.ensures.value c.observations_are_events.ensures in
    one_more (λ (t : Turn _). All (λ (o : Observation _). IsEvent (observed o)) t.events.items) c.args.turns.now c.loop-turn.turn-index c.turn-item.result
    c.loop-turn-test.true c.turn-item.is events c.loop-turn.invariant

pub returns : goal.returns
returns g c =
    all_taken (λ (t : Turn _). All (λ (o : Observation _). IsEvent (observed o)) t.events.items) c.args.turns.now c.loop-turn.turn-index
    c.loop-turn.auto.turn-index-end c.loop-turn-test.false c.loop-turn.invariant
