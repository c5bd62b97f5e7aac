-- Events as they lie in memory and without that.
use Rattle.rb_script_types.specs.declared.observation.Observation.{Observation}
use Rattle.rb_script_types.specs.declared.observation.Observation.TheVariants as seen
use Rattle.rb_core_model.specs.Event.{Event, Window, HostWindow, Asked, SetSeen, HeaderSeen, StoredSeen, Sent, Received, AckWritten, Cleared, Closed, Scanned, Planned, Settled}
use Rattle.rb_core_model.specs.declared.event.Event.{Event as CodeEvent}
use Rattle.rb_core_model.specs.declared.event.Event.TheVariants as code

abbrev pub observed : {A : Type 0} → Observation A → Event
observed (seen.SetSeen chain set) = SetSeen chain set
observed (seen.HeaderSeen chain header) = HeaderSeen chain header
observed (seen.StoredSeen client height stored) = StoredSeen client height stored
observed (seen.Sent path sequence block timeout_height timeout_time) = Sent path sequence block timeout_height timeout_time
observed (seen.Received path sequence block) = Received path sequence block
observed (seen.AckWritten path sequence block) = AckWritten path sequence block
observed (seen.Cleared path sequence) = Cleared path sequence
observed (seen.Closed path) = Closed path

abbrev pub event_view : {A : Type 0} → CodeEvent A → Event
event_view (code.Window window) = Window window
event_view (code.HostWindow w) = HostWindow w.host w.window
event_view (code.Asked asked) = Asked asked.client asked.goal
event_view (code.Observed observation) = observed observation
event_view (code.Scanned path scan) = Scanned path scan
event_view (code.Planned draft) = Planned draft
event_view (code.Settled settlement) = Settled settlement.client settlement.batch settlement.done
