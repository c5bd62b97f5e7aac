-- The event of a slot.
use Rattle.std.specs.Prelude.{Option, Some, None}
use Rattle.rb_core_model.specs.Event.{Event, Closed}
use Rattle.rb_core_model.specs.Seen.{event_view}
use Rattle.rb_core_model.specs.declared.event.Event.{Event as CodeEvent}

-- the event that is in a slot; any where it is empty
abbrev pub event_in : {A : Type 0} → Option (CodeEvent A) → Event
event_in (Some event) = event_view event
event_in None = Closed 0
