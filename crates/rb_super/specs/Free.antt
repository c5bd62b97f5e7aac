-- Turns in which no light store and no path is ever full.
use Rattle.std.specs.Prelude.{◌≡◌, ℕ, ◌+◌, List, [], ◌∷◌, ◌++◌, fold, Option, Some, None, is_some, if◌then◌else◌}
use Rattle.std.specs.List.{AllZip, enumerate_from}
use Rattle.rb_script_types.specs.declared.refusal.Refusal.{Refusal}
use Rattle.rb_script_types.specs.declared.refusal.Refusal.TheVariants.{Full}
use Rattle.rb_core_model.specs.Event.{Event}
use Rattle.rb_core_model.specs.Standing.{Standing, goes_back, judged, changed}
use Rattle.rb_super_turn.specs.Report.{RefusedEvent, TurnReport, Report}
use Rattle.rb_super_turn.specs.Script.{Turn}
use Rattle.rb_super_turn.specs.Turns.{hosts_back, refused_as, before_events, IsClientReport, after_reports, after_all, reports_of_all}

-- a refusal, unless it is for want of room
abbrev pub if_not_full : Option Refusal → Option Refusal
if_not_full None = None
if_not_full (Some Full) = None
if_not_full (Some refusal) = Some refusal

abbrev pub freely : Standing → Event → Option Refusal
freely s e = if_not_full (judged s e)

-- how things stand after an event
abbrev pub after_freely : Standing → Event → Standing
after_freely s e = if is_some (freely s e) then s else changed s e

abbrev pub refusals_freely : ℕ → Standing → List Event → List RefusedEvent
refusals_freely number s [] = []
refusals_freely number s (e ∷ es) = refused_as number (freely s e) ++ refusals_freely (number + 1) (after_freely s e) es

-- how things stand when a turn's clients are planned
abbrev pub plans_freely : Standing → Turn → Standing
plans_freely s turn = fold after_freely (before_events s turn) turn.events

abbrev pub sent_freely : Standing → Turn → TurnReport → Standing
sent_freely s turn r = record (plans_freely s turn) { clients = after_reports (plans_freely s turn).clients r.clients }

-- what a turn reports (as IsTurnReport says, but for what is refused)
pub record IsFreeReport (s : Standing) (turn : Turn) (r : TurnReport) : Type 0 where
  pub window : r.window_back ≡ goes_back s.window turn.window
  pub hosts : r.hosts_back ≡ hosts_back s turn.windows
  pub refused : r.refused ≡ refusals_freely 0 (before_events s turn) turn.events
  pub clients : AllZip (IsClientReport (plans_freely s turn)) (enumerate_from 0 (plans_freely s turn).clients) r.clients
  pub settlements : r.settlements ≡ reports_of_all turn.settlements turn.taken (sent_freely s turn r)

abbrev pub turn_freely : Standing → Turn → TurnReport → Standing
turn_freely s turn r = after_all turn.settlements turn.taken (sent_freely s turn r)

-- one report for each turn
abbrev pub AreFreeReports : Standing → List Turn → Report → Type 0
AreFreeReports s [] [] = Unit {0}
AreFreeReports s [] (r ∷ rs) = ⊥
AreFreeReports s (turn ∷ turns) [] = ⊥
AreFreeReports s (turn ∷ turns) (r ∷ rs) = IsFreeReport s turn r × AreFreeReports (turn_freely s turn r) turns rs
