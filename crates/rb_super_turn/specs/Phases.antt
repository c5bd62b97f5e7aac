-- What the phases of a turn keep of a relayer.
use Rattle.std.specs.Prelude.{◌≡◌, ℕ, ◌+◌, ◌<◌, ◌≤◌, true, false, length, Some, is_some, slice_get, List, [], ◌∷◌, map}
use Rattle.rb_base.specs.Window.{Span}
use Rattle.rb_base.specs.declared.gate.Part.{Part}
use Rattle.rb_script_types.specs.declared.observation.Observation.{Observation}
use Rattle.rb_script_types.specs.declared.script.Asked.{Asked as Question}
use Rattle.rb_script_types.specs.declared.script.HostWindow.{HostWindow}
use Rattle.rb_core.specs.Core.{Core, state_in}
use Rattle.rb_core_model.specs.Machine.{is_scanned}
use Rattle.rb_core_model.specs.Limits.{max_events}
use Rattle.rb_core_model.specs.Seen.{observed}
use Rattle.rb_core_model.specs.Standing.{ClientState, Standing, with_client}
use Rattle.rb_plan_client.specs.Task.{Message}
use Rattle.rb_super_turn.specs.Report.{Outcome, ClientReport}
use Rattle.rb_super_turn.specs.Script.{Turn}
use Rattle.rb_super_turn.specs.Turns.{IsClientReport, after_outcome}

abbrev pub standing_in : Core → Standing
standing_in core = (state_in core).standing

-- its log has room for so many more events
abbrev pub HasLogRoom : Core → ℕ → Type 0
HasLogRoom core count = (state_in core).front + count ≤ max_events

-- the same relayer, after so many more events at most
pub record IsLater (count : ℕ) (old new : Core) : Type 0 where
  pub config : new.config ≡ old.config
  pub front : (state_in new).front ≤ (state_in old).front + count

-- a turn that was heard up to its plans: its windows, what is asked, and what was observed
abbrev pub turn_heard : {A : Type 0} → Span → List HostWindow → List Question → List (Observation A) → Turn
turn_heard window windows goals observations = record { window = window; windows = windows; goals = goals; events = map observed observations; settlements = []; taken = false }

-- each part of each path has a valid scan
abbrev pub IsAllScanned : Core → Type 0
IsAllScanned core = (path : ℕ) (part : Part) → path < length core.config.paths → is_scanned (state_in core) path part ≡ true

-- scans that were valid are
abbrev pub KeepsScans : Core → Core → Type 0
KeepsScans old new = (path : ℕ) (part : Part) → is_scanned (state_in old) path part ≡ true → is_scanned (state_in new) path part ≡ true

-- clients may be planned for: a window was entered, and all is scanned
pub record IsPlannable (core : Core) : Type 0 where
  pub window : is_some (standing_in core).window ≡ true
  pub scanned : IsAllScanned core

-- a client's part of the report is right as things stand, and leads to how they stand then
pub record IsReportedOf (s t : Standing) (client : ℕ) (report : ClientReport) : Type 0 where
  pub known : ClientState
  pub is_known : slice_get s.clients client ≡ Some known
  pub right : IsClientReport s (client, known) report
  pub after : t ≡ with_client s client (after_outcome report.outcome)

-- the same of an outcome and of the messages that are left out, under the identifier of the client that is known there
pub record IsOutcomeOf (s t : Standing) (client : ℕ) (outcome : Outcome) (too_big : List Message) : Type 0 where
  pub known : ClientState
  pub is_known : slice_get s.clients client ≡ Some known
  pub reported : IsReportedOf s t client (record { id = known.config.id; outcome = outcome; too_big = too_big })

-- The reports are one of each client from this one on, in their order. Each is right as those before it leave things, and all
-- of them lead to how things stand then.
abbrev pub AreReported : Standing → Standing → ℕ → List ClientReport → Type 0
AreReported s t client [] = t ≡ s
AreReported s t client (report ∷ reports) = (next : Standing) × IsReportedOf s next client report × AreReported next t (client + 1) reports
