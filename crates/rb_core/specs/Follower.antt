-- A follower: what is known after the entries of a log, and why what is told of one isn't taken in. What a scan or a plan was made
-- for isn't compared again, and what was received, written or cleared isn't judged again; the rest is, since taking it in asks for it.
use Rattle.std.specs.Prelude.{◌≡◌, Bool, not, nat_le, List, [], ◌∷◌, ◌++◌, All, Option, Some, None, IsSomeAnd, is_none}
use Rattle.std.specs.Option.{option_map_or}
use Rattle.rb_script_types.specs.Config.{Config}
use Rattle.rb_script_types.specs.declared.refusal.Refusal.{Refusal}
use Rattle.rb_script_types.specs.declared.refusal.Refusal.TheVariants.{UnknownObject, LogFull, OutOfOrder}
use Rattle.rb_core_model.specs.Begun.{IsBegun}
use Rattle.rb_core_model.specs.Config.{IsSetUp}
use Rattle.rb_core_model.specs.Entry as entries
use Rattle.rb_core_model.specs.Entry.{Logged, logged_of, event_of, log_from}
use Rattle.rb_core_model.specs.Event.{Event, IsEvent, Received, AckWritten, Cleared, Scanned}
use Rattle.rb_core_model.specs.Log.{IsLog}
use Rattle.rb_core_model.specs.Machine.{State, knows_client, knows_path, is_known, accepted, state_of}
use Rattle.rb_core_model.specs.Limits.{max_events}
use Rattle.rb_core_model.specs.Refusal.{refused_if}
use Rattle.rb_core_model.specs.Snapshot.{Snapshot, Log}
use Rattle.rb_core_model.specs.Standing.{Standing, judged}
use Rattle.rb_core_model.specs.Scan.{Scan}

-- how a relayer is configured, what a log begins with, and the log's entries
pub record Past : Type 0 where
  pub config : Config
  pub start : Snapshot
  pub entries : List Logged

-- the log
abbrev pub log_in : Past → Log
log_in p = log_from p.config p.start p.entries

-- what is known after it
abbrev pub state_after : Past → State
state_after p = state_of p.config (log_in p)

-- what it has followed, and what it knows
pub record Follower : Type 0 where
  pub past : Past
  pub state : State

-- what it has followed is a log: it begins as logs may, and has events of a relayer that is set up, each accepted in its turn; and it
-- knows what is known after them
pub record IsOfLog (f : Follower) : Type 0 where
  pub set_up : IsSetUp f.past.config
  pub begun : IsBegun f.past.config f.past.start
  pub events : All IsEvent (log_in f.past).events
  pub accepted : IsLog f.past.config (log_in f.past)
  pub state : f.state ≡ state_after f.past

-- what followers are told of an event: what the log keeps of it, and a scan as it was made
pub record Told : Type 0 where
  pub entry : Logged
  pub scan : Option Scan

-- an entry of a scan comes with the scan, and no other with one
abbrev pub IsTold : Logged → Option Scan → Type 0
IsTold (entries.scan path part) scan = IsSomeAnd scan (λ (s : Scan). s.part ≡ part)
IsTold entry scan = scan ≡ None

abbrev pub scan_in : Event → Option Scan
scan_in (Scanned path scan) = Some scan
scan_in event = None

abbrev pub told_of : Event → Told
told_of event = record { entry = logged_of event; scan = scan_in event }

-- what an entry leaves; nothing new where its path or its client isn't shown
abbrev pub after_entry : State → Logged → State
after_entry s x = option_map_or (accepted s) (event_of s x) s

-- what is known after what is told
abbrev pub followed_as : State → Logged → Option Scan → State
followed_as s (entries.scan path part) (Some scan) = accepted s (Scanned path scan)
followed_as s entry scan = after_entry s entry

abbrev pub followed : State → Told → State
followed s x = followed_as s x.entry x.scan

-- a follower that has followed what is told, too
abbrev pub follows : Follower → Told → Follower
follows f x = record {
  past = record f.past { entries = f.past.entries ++ x.entry ∷ [] };
  state = followed f.state x;
}

-- ---- why what is told isn't taken in

-- what it speaks of isn't there, or the log is full; else what comes next
abbrev pub refused_first : State → Bool → Option Refusal → Option Refusal
refused_first s state next =
    refused_if (not state) UnknownObject (
    refused_if (nat_le max_events s.front) LogFull next)

-- why how things stand refuses an event; what was received, written or cleared isn't judged again
abbrev pub judged_again : Standing → Event → Option Refusal
judged_again s (Received path sequence block) = None
judged_again s (AckWritten path sequence block) = None
judged_again s (Cleared path sequence) = None
judged_again s event = judged s event

-- why an entry isn't taken in, the first reason that applies; what a scan or a plan was made for isn't compared again
abbrev pub entry_refusal : State → Logged → Option Refusal
entry_refusal s (entries.whole event) = refused_first s (is_known s event) (judged_again s.standing event)
entry_refusal s (entries.scan path part) = refused_first s (knows_path s path) None
entry_refusal s (entries.plan client answer next) = refused_first s (knows_client s client) (refused_if (is_none s.standing.window) OutOfOrder None)
