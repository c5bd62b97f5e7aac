-- What a log keeps of an event, and how the events come back from it.
use Rattle.std.specs.Prelude.{ℕ, List, [], ◌∷◌, Option, Some}
use Rattle.std.specs.Option.{option_map, option_map_or}
use Rattle.rb_script_types.specs.Config.{Config}
use Rattle.rb_base.specs.declared.gate.Part.{Part}
use Rattle.rb_plan_client.specs.Draft.{Planned as Answer}
use Rattle.rb_core_model.specs.Event.{Event, Window, HostWindow, Asked, SetSeen, HeaderSeen, StoredSeen, Sent, Received, AckWritten, Cleared, Closed, Scanned, Planned, Settled}
use Rattle.rb_core_model.specs.Machine.{State, begun, client_view, after}
use Rattle.rb_core_model.specs.Seen.{observed}
use Rattle.rb_core_model.specs.Snapshot.{Snapshot, Log}
use Rattle.rb_core_model.specs.Standing.{path_view}
use Rattle.rb_core_model.specs.declared.entry.Entry.{Entry}
use Rattle.rb_core_model.specs.declared.entry.Entry.TheVariants as entry

-- an event; or a scan or a plan without what it was made for, which is seen after the log before it
pub data Logged : Type 0 where
  whole : Event → Logged
  scan : ℕ → Part → Logged
  plan : ℕ → Option Answer → Option ℕ → Logged

abbrev pub entry_view : {A : Type 0} → Entry A → Logged
entry_view (entry.Window window) = whole (Window window)
entry_view (entry.HostWindow w) = whole (HostWindow w.host w.window)
entry_view (entry.Asked asked) = whole (Asked asked.client asked.goal)
entry_view (entry.Observed observation) = whole (observed observation)
entry_view (entry.Scan path part) = scan path part
entry_view (entry.Plan client answer next) = plan client answer next
entry_view (entry.Settled settlement) = whole (Settled settlement.client settlement.batch settlement.done)

abbrev pub logged_of : Event → Logged
logged_of (Window window) = whole (Window window)
logged_of (HostWindow host window) = whole (HostWindow host window)
logged_of (Asked client goal) = whole (Asked client goal)
logged_of (SetSeen chain set) = whole (SetSeen chain set)
logged_of (HeaderSeen chain header) = whole (HeaderSeen chain header)
logged_of (StoredSeen client height r) = whole (StoredSeen client height r)
logged_of (Sent path sequence block timeout_height timeout_time) = whole (Sent path sequence block timeout_height timeout_time)
logged_of (Received path sequence block) = whole (Received path sequence block)
logged_of (AckWritten path sequence block) = whole (AckWritten path sequence block)
logged_of (Cleared path sequence) = whole (Cleared path sequence)
logged_of (Closed path) = whole (Closed path)
logged_of (Scanned path s) = scan path s.part
logged_of (Planned d) = plan d.job.client d.answer d.next
logged_of (Settled client number done) = whole (Settled client number done)

-- the event of an entry in the state that the log before it leaves; none of a path or a client that isn't shown, which no
-- log has
abbrev pub event_of : State → Logged → Option Event
event_of s (whole event) = Some event
event_of s (scan path part) = option_map (λ v. Scanned path (record { view = v; part = part })) (path_view s.standing path)
event_of s (plan client answer next) = option_map (λ job. Planned (record { job = job; answer = answer; next = next })) (client_view s client)

abbrev pub events_of : State → List Logged → List Event
events_of s [] = []
events_of s (x ∷ xs) = option_map_or (λ event. event ∷ events_of (after s event) xs) (event_of s x) (events_of s xs)

-- the log whose entries these are
abbrev pub log_from : Config → Snapshot → List Logged → Log
log_from config start entries = record { start = start; events = events_of (begun config start) entries }
