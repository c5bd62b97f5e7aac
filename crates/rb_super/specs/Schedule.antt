-- Schedules: each step is of the supervisor or of one worker. Who works, what was seen and what is taken are free.
use Rattle.std.specs.Prelude.{◌≡◌, ℕ, ◌+◌, ◌≤◌, ◌==◌, Bool, true, false, not, ◌&&◌, nat_le, List, [], ◌∷◌, ◌++◌, length, take, max, sum_by, Option, Some, None, is_some, slice_get, if◌then◌else◌}
use Rattle.std.specs.List.{fold}
use Rattle.std.specs.Option.{option_map, option_map_or, option_or, option_and_then, option_to_list}
use Rattle.rb_scan.specs.Path.{Path}
use Rattle.rb_base.specs.declared.gate.Part.{Part}
use Rattle.rb_base.specs.declared.gate.Part.TheVariants.{Packets, Channel}
use Rattle.rb_script_types.specs.Config.{Config}
use Rattle.rb_plan_client.specs.Draft.{Draft, IsDraft}
use Rattle.rb_plan_client.specs.Task.{Message, too_big_messages}
use Rattle.rb_core_model.specs.Event.{Event, Window, Asked, Scanned, Planned}
use Rattle.rb_core_model.specs.Scan.{Scan}
use Rattle.rb_core_model.specs.Snapshot.{from_nothing}
use Rattle.rb_core_model.specs.Machine.{State, opening, is_scanned, is_job, client_view, refusal_of, after, state_of}
use Rattle.rb_core_model.specs.Limits.{max_events}
use Rattle.rb_core_model.specs.Standing.{OpenBatch, ClientState, opening_standing, path_view}
use Rattle.rb_script_types.specs.declared.script.Settlement.{Settlement}
use Rattle.rb_super_turn.specs.Agenda.{Item, enter_host, enter, ask, observe, scan, plan, settle, take_open, agenda, empty_report}
use Rattle.rb_super_turn.specs.Report.{Outcome, held, SettlementReport, TurnReport, Report}
use Rattle.rb_super_turn.specs.Script.{Turn, Script, IsScript}
use Rattle.rb_super_turn.specs.Turns.{window_event, refused_as, outcome_of, settlement_event, id_of, taking, AreTurnReports}

-- a turn under way: what is still due, and its report so far
pub record Progress : Type 0 where
  pub due : List Item
  pub report : TurnReport

-- The supervisor's relayer and its log of accepted events, how many of these are published, for each worker how many it was
-- told of and how many it has seen, what the workers found, the turn under way, the turns to come, and the reports of those
-- that are over.
pub record World : Type 0 where
  pub core : State
  pub log : List Event
  pub published : ℕ
  pub told : ℕ → ℕ
  pub known : ℕ → ℕ
  pub scans : List (ℕ × Scan)
  pub drafts : List Draft
  pub current : Option Progress
  pub turns : List Turn
  pub done : Report

-- a draft that is right for its job, whoever made it
pub record RightDraft : Type 0 where
  pub draft : Draft
  pub right : IsDraft draft

-- The supervisor does what is due: where that is a scan or a plan it may take the finding at a place, else it makes its own,
-- for a plan the draft that is given here. It publishes its log, or tells a worker. A worker learns what it was told, or
-- sees so many events and scans a part of a path, or plans for a client.
pub data Step : Type 0 where
  acts : ℕ → Option RightDraft → Step
  publishes : Step
  tells : ℕ → Step
  learns : ℕ → Step
  scans : ℕ → ℕ → ℕ → Part → Step
  plans : ℕ → ℕ → ℕ → RightDraft → Step

abbrev pub first_world : Script → World
first_world script = record {
  core = opening script.config;
  log = [];
  published = 0;
  told = λ worker. 0;
  known = λ worker. 0;
  scans = [];
  drafts = [];
  current = None;
  turns = script.turns;
  done = [];
}

-- ---- workers

abbrev pub put : (ℕ → ℕ) → ℕ → ℕ → ℕ → ℕ
put f worker n other = if other == worker then n else f other

-- a worker may see as many events as are published, and no fewer than it has seen
abbrev pub may_see : World → ℕ → ℕ → Bool
may_see w worker events = nat_le (w.known worker) events && nat_le events w.published

abbrev pub own_scan : State → ℕ → Part → Option (ℕ × Scan)
own_scan s path part = option_map (λ (v : Path). (path, record { view = v; part = part })) (path_view s.standing path)

-- ---- the supervisor

-- an event is appended, and the log keeps it where it isn't refused
abbrev pub appended : World → Event → World
appended w e = record w { core = after w.core e; log = if is_some (refusal_of w.core e) then w.log else w.log ++ e ∷ [] }

abbrev pub next : World → List Item → TurnReport → World
next w items r = record w { current = Some (record { due = items; report = r }) }

abbrev pub is_accepted : State → Event → Bool
is_accepted s e = not (is_some (refusal_of s e))

abbrev pub same_part : Part → Part → Bool
same_part Packets Packets = true
same_part Packets Channel = false
same_part Channel Packets = false
same_part Channel Channel = true

-- the finding at a place, if it is for what is due and the relayer accepts it
abbrev pub if_fits : {X : Type 0} → (X → Bool) → Option X → Option X
if_fits fits o = option_and_then (λ x. if fits x then Some x else None) o

abbrev pub fits_scan : State → ℕ → Part → ℕ × Scan → Bool
fits_scan s path part f = (f.0 == path) && same_part f.1.part part && is_accepted s (Scanned f.0 f.1)

abbrev pub fits_draft : State → ℕ → Draft → Bool
fits_draft s client d = (d.job.client == client) && is_accepted s (Planned d)

abbrev pub with_client_report : TurnReport → ClientState → Outcome → List Message → TurnReport
with_client_report r c o ms = record r { clients = r.clients ++ record { id = c.config.id; outcome = o; too_big = ms } ∷ [] }

abbrev pub draft_given : Option RightDraft → Option Draft
draft_given given = option_map (λ (x : RightDraft). x.draft) given

-- a finding that fits, else the supervisor's own scan or draft
abbrev pub scan_taken : World → ℕ → ℕ → Part → Option (ℕ × Scan)
scan_taken w k path part = option_or (if_fits (fits_scan w.core path part) (slice_get w.scans k)) (own_scan w.core path part)

abbrev pub draft_taken : World → ℕ → Option RightDraft → ℕ → Option Draft
draft_taken w k own client =
    option_or (if_fits (fits_draft w.core client) (slice_get w.drafts k)) (if_fits (fits_draft w.core client) (draft_given own))

-- a part that has a valid scan isn't scanned again
abbrev pub scanned : World → ℕ → ℕ → Part → World
scanned w k path part =
    if is_scanned w.core path part then w else option_map_or (λ (f : ℕ × Scan). appended w (Scanned f.0 f.1)) (scan_taken w k path part) w

-- a client with an open batch isn't planned for; for another one nothing is done until there is a draft
abbrev pub plan_done : World → ℕ → Option RightDraft → List Item → TurnReport → ℕ → ClientState → Option OpenBatch → World
plan_done w k own items r client c (Some b) = next w items (with_client_report r c (held b.number) [])
plan_done w k own items r client c None =
    option_map_or (λ d. next (appended w (Planned d)) items (with_client_report r c (outcome_of c d) (too_big_messages d.job.task))) (draft_taken w k own client) w

-- what is reported of a settlement
abbrev pub settled_as : State → Settlement → SettlementReport
settled_as s x = record { id = id_of s.standing x.client; batch = x.batch; done = x.done; refusal = refusal_of s (settlement_event x) }

-- a client's open batch is taken whole; where none is open, nothing is done
abbrev pub take_done : World → List Item → TurnReport → Option Settlement → World
take_done w items r x =
    next (option_map_or (λ y. appended w (settlement_event y)) x w) items (record r { settlements = r.settlements ++ option_to_list (option_map (settled_as w.core) x) })

abbrev pub item_done : World → ℕ → Option RightDraft → List Item → TurnReport → Item → World
item_done w k own items r (enter_host x) =
    next (appended w (window_event x)) items (record r { hosts_back = r.hosts_back ++ (if is_some (refusal_of w.core (window_event x)) then x.host ∷ [] else []) })
item_done w k own items r (enter window) = next (appended w (Window window)) items (record r { window_back = is_some (refusal_of w.core (Window window)) })
item_done w k own items r (ask q) = next (appended w (Asked q.client q.goal)) items r
item_done w k own items r (observe number event) = next (appended w event) items (record r { refused = r.refused ++ refused_as number (refusal_of w.core event) })
item_done w k own items r (scan path part) = next (scanned w k path part) items r
item_done w k own items r (plan client) =
    option_map_or (λ (c : ClientState). plan_done w k own items r client c c.batch) (slice_get w.core.standing.clients client) w
item_done w k own items r (settle x) =
    next (appended w (settlement_event x)) items (record r { settlements = r.settlements ++ settled_as w.core x ∷ [] })
item_done w k own items r (take_open client) = take_done w items r (taking w.core.standing client)

module _ (config : Config) where
  -- the next turn begins, the turn under way is over, or what is due next is done
  abbrev pub begun : World → List Turn → World
  begun w [] = w
  begun w (t ∷ ts) = record w { current = Some (record { due = agenda config t; report = empty_report }); turns = ts }

  abbrev pub due_done : World → ℕ → Option RightDraft → TurnReport → List Item → World
  due_done w k own r [] = record w { current = None; done = w.done ++ r ∷ [] }
  due_done w k own r (item ∷ items) = item_done w k own items r item

  abbrev pub acted : World → ℕ → Option RightDraft → Option Progress → World
  acted w k own None = begun w w.turns
  acted w k own (Some p) = due_done w k own p.report p.due

  -- what a worker makes of the relayer after so many events
  abbrev pub seen : ℕ → World → State
  seen events w = state_of config (from_nothing (take events w.log))

  -- it plans for the client as it sees it
  abbrev pub may_plan : World → ℕ → ℕ → ℕ → Draft → Bool
  may_plan w worker events client d = may_see w worker events && (d.job.client == client) && is_job (seen events w) d.job

  abbrev pub step : World → Step → World
  step w (acts k own) = acted w k own w.current
  step w publishes = record w { published = length w.log }
  step w (tells worker) = record w { told = put w.told worker w.published }
  step w (learns worker) = record w { known = put w.known worker (max (w.known worker) (w.told worker)) }
  step w (scans worker events path part) =
      if may_see w worker events
      then record w { known = put w.known worker events; scans = option_to_list (own_scan (seen events w) path part) ++ w.scans }
      else w
  step w (plans worker events client own) =
      if may_plan w worker events client own.draft
      then record w { known = put w.known worker events; drafts = own.draft ∷ w.drafts }
      else w

  abbrev pub after_steps : World → List Step → World
  after_steps w steps = fold step w steps

-- ---- the laws

-- the most events that can be appended for turns
abbrev pub appends_in : Config → List Turn → ℕ
appends_in config turns = sum_by (λ t. length (agenda config t)) turns

-- all that can be appended for a script has room in the log
abbrev pub FitsLog : Script → Type 0
FitsLog script = appends_in script.config script.turns ≤ max_events

-- the world that steps lead to
abbrev pub world_after : Script → List Step → World
world_after script steps = after_steps script.config (first_world script) steps

-- Whatever is done in whichever order, and whichever findings are taken, the reports of the turns that are over are those
-- that the script has on one thread.
abbrev pub Schedules : Type 0
Schedules =
    (script : Script) (steps : List Step) → IsScript script → FitsLog script
    → let done = (world_after script steps).done
    in AreTurnReports (opening_standing script.config) (take (length done) script.turns) done

-- Where a client without an open batch is to be planned for, the relayer accepts each draft that is made for it as things
-- stand: the supervisor's own draft always serves.
abbrev pub OwnDraftsServe : Type 0
OwnDraftsServe =
    (script : Script) (steps : List Step) → IsScript script → FitsLog script
    → (client : ℕ) (items : List Item) (r : TurnReport) → (world_after script steps).current ≡ Some (record { due = plan client ∷ items; report = r })
    → (c : ClientState) → slice_get (world_after script steps).core.standing.clients client ≡ Some c → c.batch ≡ None
    → (d : Draft) → client_view (world_after script steps).core client ≡ Some d.job → refusal_of (world_after script steps).core (Planned d) ≡ None
