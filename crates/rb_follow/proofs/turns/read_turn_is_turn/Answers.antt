use Rattle.rb_script_config.specs.Setups.{setup_view}
use Rattle.rb_follow.proofs.RightTurns.{right_turn}
use Rattle.rb_follow.proofs.turns.read_turn_is_turn.Goals as goal

pub returns : goal.returns
returns c = right_turn (setup_view c.args.setup.now) c.args.turn.now c.as_slice.result.now c.as_slice.ensures.value c.requires c.observations_are_events.ensures
