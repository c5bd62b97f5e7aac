-- Laws of single events: what whoever takes them in can rest on.
use Rattle.std.specs.Prelude.{◌≡◌, ℕ, ◌<◌, true, false, length, Some, None, slice_get}
use Rattle.rb_base.specs.Window.{Span}
use Rattle.rb_scan.specs.Path.{Path}
use Rattle.rb_base.specs.declared.gate.Part.{Part}
use Rattle.rb_plan_client.specs.Draft.{Draft}
use Rattle.rb_core_model.specs.Event.{Event, Scanned, Planned}
use Rattle.rb_core_model.specs.Scan.{Scan}
use Rattle.rb_core_model.specs.Machine.{State, is_scanned, client_view, is_known, knows_path, refusal_of, after}
use Rattle.rb_core_model.specs.Limits.{max_events}
use Rattle.rb_core_model.specs.Standing.{ClientState, path_view, task_in, judged, standing_after, with_client, after_answer}

-- the event is neither a scan nor a plan
abbrev pub IsFromOutside : Event → Type 0
IsFromOutside (Scanned path scan) = ⊥
IsFromOutside (Planned d) = ⊥
IsFromOutside _ = Unit {0}

-- such an event of a known object is judged by how things stand, where the log has room
abbrev pub JudgedByStanding : Type 0
JudgedByStanding =
    (s : State) (e : Event) → IsFromOutside e → is_known s e ≡ true → s.front < max_events
    → (refusal_of s e ≡ judged s.standing e) × ((after s e).standing ≡ standing_after s.standing e)

-- a path's part that has no valid scan is scanned as the path is
abbrev pub PresentScansAreAccepted : Type 0
PresentScansAreAccepted =
    (s : State) (path : ℕ) (part : Part) (v : Path) → knows_path s path ≡ true → s.front < max_events → path_view s.standing path ≡ Some v
    → is_scanned s path part ≡ false → refusal_of s (Scanned path (record { view = v; part = part })) ≡ None

-- a scan that is accepted leaves how things stand, gives its part a valid scan, and leaves those that others have
pub record IsAfterScan (s t : State) (path : ℕ) (scan : Scan) : Type 0 where
  pub standing : t.standing ≡ s.standing
  pub scanned : is_scanned t path scan.part ≡ true
  pub others : (p : ℕ) (part : Part) → is_scanned s p part ≡ true → is_scanned t p part ≡ true

abbrev pub ScansLast : Type 0
ScansLast =
    (s : State) (path : ℕ) (scan : Scan) → path < length s.scans → refusal_of s (Scanned path scan) ≡ None
    → IsAfterScan s (after s (Scanned path scan)) path scan

-- a draft that is made for a client as it is seen is accepted, where no batch of the client's is open and all is scanned
abbrev pub PresentDraftsAreAccepted : Type 0
PresentDraftsAreAccepted =
    (s : State) (client : ℕ) (c : ClientState) (d : Draft) → s.front < max_events → client_view s client ≡ Some d.job
    → slice_get s.standing.clients client ≡ Some c → c.batch ≡ None
    → ((p : ℕ) (part : Part) → p < length s.standing.paths → is_scanned s p part ≡ true) → refusal_of s (Planned d) ≡ None

-- A draft that is accepted was made for what its client is to be brought to as things stand, and opens its batch; the
-- scans stay.
pub record IsOfTheMoment (s : State) (d : Draft) : Type 0 where
  pub window : Span
  pub known : ClientState
  pub is_window : s.standing.window ≡ Some window
  pub is_known : slice_get s.standing.clients d.job.client ≡ Some known
  pub none_open : known.batch ≡ None
  pub task : d.job.task ≡ task_in s.standing window d.job.client known
  pub standing : (after s (Planned d)).standing ≡ with_client s.standing d.job.client (after_answer d.answer)
  pub scans : (p : ℕ) (part : Part) → is_scanned (after s (Planned d)) p part ≡ is_scanned s p part

abbrev pub AcceptedDraftsAreOfTheMoment : Type 0
AcceptedDraftsAreOfTheMoment = (s : State) (d : Draft) → refusal_of s (Planned d) ≡ None → IsOfTheMoment s d
