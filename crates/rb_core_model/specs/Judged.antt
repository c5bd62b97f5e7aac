-- Events that a core has judged.
use Rattle.std.specs.Prelude.{ℕ}
use Rattle.rb_core_model.specs.Event.{Event}

-- an event, and how many events the core had taken in when it judged it
pub record Ready : Type 0 where
  pub front : ℕ
  pub event : Event
