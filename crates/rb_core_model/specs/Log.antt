-- The log of a relayer: the events that it accepted, in their order.
use Rattle.std.specs.Prelude.{◌≡◌, List, [], ◌∷◌, length, is_some, if◌then◌else◌}
use Rattle.rb_script_types.specs.Config.{Config}
use Rattle.rb_core_model.specs.Event.{Event}
use Rattle.rb_core_model.specs.Machine.{State, begun, refusal_of, after, state_of}
use Rattle.rb_core_model.specs.Snapshot.{Log}

-- the accepted ones of events, from a state on
abbrev pub accepted_from : State → List Event → List Event
accepted_from s [] = []
accepted_from s (event ∷ events) =
    if is_some (refusal_of s event) then accepted_from (after s event) events else event ∷ accepted_from (after s event) events

-- the log of the accepted ones
abbrev pub log_of : Config → Log → Log
log_of c log = record log { events = accepted_from (begun c log.start) log.events }

-- each event of a log is accepted in its turn
abbrev pub IsLog : Config → Log → Type 0
IsLog c log = log_of c log ≡ log

-- the log leads to where the events lead, it is a log, and the state has counted its events
pub record LeadsAsItsLog (c : Config) (events : Log) : Type 0 where
  pub state : state_of c (log_of c events) ≡ state_of c events
  pub log : IsLog c (log_of c events)
  pub front : (state_of c events).front ≡ length (log_of c events).events

abbrev pub StatesAreOfLogs : Type 0
StatesAreOfLogs = (c : Config) (events : Log) → LeadsAsItsLog c events
