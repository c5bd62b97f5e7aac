-- (internal) What a follower keeps in order.
use Rattle.std.specs.Prelude.{◌≡◌, ℕ, ◌≤◌, List}
use Rattle.rb_core.specs.Core.{Core, state_in}
use Rattle.rb_core_model.specs.Limits.{max_events}
use Rattle.rb_script_types.specs.Config.{Config}
use Rattle.rb_script_config.specs.Paths.{path_ids}
use Rattle.rb_follow.specs.Followers.{max_turns}

-- the relayer is set up as turns are read, and its log has no more events than the turns can have given
pub record IsInOrder (c : Config) (core : Core) (paths : List (List ℕ)) (turns events : ℕ) : Type 0 where
  pub config : core.config ≡ c
  pub paths_are : paths ≡ path_ids c.paths
  pub few_turns : turns ≤ max_turns c.version
  pub front : (state_in core).front ≤ events
  pub few_events : events ≤ max_events
