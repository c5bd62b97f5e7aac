-- What contracts see of the pen and of a desk.
use Rattle.std.specs.Prelude.{ℕ}
use Rattle.rb_script_types.specs.Config.{Config}
use Rattle.rb_core_model.specs.Snapshot.{Log}

-- the most desks of a board (own choice)
abbrev pub max_desks : ℕ
max_desks = 64

-- how the board's core is configured, the board's log, and the beginning of it that is published
pub record Pen : Type 0 where
  pub config : Config
  pub log : Log
  pub published : Log

-- how the board's core is configured, the beginning of its log that the desk has seen, and how many events it was told of
pub record Desk : Type 0 where
  pub config : Config
  pub seen : Log
  pub told : ℕ
