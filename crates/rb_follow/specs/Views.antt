-- A follower as it lies in memory, as contracts see it.
use Rattle.rb_script_config.specs.Setups.{setup_view}
use Rattle.rb_script_read.specs.Turns.{reading_view}
use Rattle.rb_super_turn.specs.Phases.{standing_in}
use Rattle.rb_follow.specs.declared.follower.TurnFollower.{TurnFollower}
use Rattle.rb_follow.specs.Drivers.{core_of}
use Rattle.rb_follow.specs.Followers.{Following}

abbrev pub following : {G : Type 0} → TurnFollower G → Following
following f = record {
  config = setup_view f.setup;
  turns = f.turns;
  reading = reading_view f.reading;
  events = f.events;
  standing = standing_in (core_of f.driver);
  forgotten = f.forgotten.items;
}
