-- Worked schedules, found by computing: a turn by the supervisor alone, and the same turn with a worker's findings.
use Rattle.std.specs.Prelude.{◌≡◌, refl, ℕ, ◌<◌, false, List, [], ◌∷◌, ◌++◌, length, Contains, Option, Some, None, unwrap_or, slice_get}
use Rattle.std.specs.Option.{option_map}
use Rattle.std.proofs.Common.{arith, subst}
use Rattle.rb_scan.specs.declared.path.Order.TheVariants.{Ordered}
use Rattle.rb_base.specs.declared.gate.Part.TheVariants.{Packets}
use Rattle.rb_step.specs.LightClient.{Client}
use Rattle.rb_step.specs.View.{client_of}
use Rattle.rb_plan_types.specs.ProofHeight.{IsProofHeight}
use Rattle.rb_plan_client.specs.Draft.{Job, IsIdle}
use Rattle.rb_core_model.specs.Event.{Sent}
use Rattle.rb_core_model.specs.Examples.{a_config, a_client}
use Rattle.rb_core_model.specs.Machine.{client_view}
use Rattle.rb_plan_client.specs.Reach.{IsReachable, IsReach}
use Rattle.rb_core_model.specs.Standing.{empty_book}
use Rattle.rb_plan_client.specs.Next.{IsNext}
use Rattle.rb_plan_client.specs.Task.{Task, view_of, goal_of, next_moment}
use Rattle.rb_super_turn.specs.Report.{idle, ClientReport, TurnReport}
use Rattle.rb_super.specs.Schedule.{RightDraft, Step, acts, publishes, tells, learns, scans, plans, world_after}
use Rattle.rb_super_turn.specs.Script.{Turn, Script}

-- a packet is seen, and no client has stored anything
abbrev pub a_turn : Turn
a_turn = record { window = record { from = 100; until = 200 }; windows = []; goals = []; events = Sent 0 4 (record { height = 8; time = None }) None None ∷ Sent 0 4 (record { height = 8; time = None }) None None ∷ []; settlements = []; taken = false }

abbrev pub a_script : Script
a_script = record { config = a_config Ordered; turns = a_turn ∷ [] }

-- nothing can be reached from nothing
none_stored : (stored : List ℕ) (h : ℕ) → stored ≡ [] → Contains stored h → ⊥
none_stored stored h e c = (let at : Contains [] h = subst (λ xs. Contains xs h) e c in let lt : at.0 < 0 = at.1 in omega arith)

unreachable : (client : Client) (h : ℕ) → client.stored ≡ [] → IsReachable client h → ⊥
unreachable client h e ([], accepted, left) = none_stored client.stored h e left.0
unreachable client h e (u ∷ us, accepted, left) = none_stored client.stored u.trusted e accepted.0

no_reach : (t : Task) → t.stored ≡ [] → IsReach (client_of (view_of t)) None
unfolding client_of
no_reach t stored = record { reached = tt; greatest = λ h r. absurd (unreachable (client_of (view_of t)) h stored r) }

no_proof : (t : Task) → t.stored ≡ [] → IsProofHeight (client_of (view_of t)) [] None
unfolding client_of
no_proof t stored = record { left = tt; greatest = λ h left. absurd (none_stored (client_of (view_of t)).stored h stored left.0) }

pub idle_without_records : (t : Task) → t.stored ≡ [] → goal_of t None ≡ None → IsIdle t
idle_without_records t stored goal = record { reach = None; is_reach = no_reach t stored; goal = goal }

pub next_without_records : (t : Task) → t.stored ≡ [] → IsNext t [] (next_moment t None None [])
next_without_records t stored = record { reach = None; is_reach = no_reach t stored; proof = None; is_proof = no_proof t stored; is = refl }

abbrev pub no_task : Task
no_task = record {
  config = a_client [] 0 0;
  stored = [];
  window = record { from = 0; until = 0 };
  book = empty_book 1;
  paths = [];
  asked = None;
}

-- the task of a client as the supervisor sees it after some steps, and that there is nothing to do
abbrev pub job_after : List Step → ℕ → Job
job_after steps client =
    unwrap_or (client_view (world_after a_script steps).core client) (record { client = client; task = no_task; plan = 0; held = false })

abbrev pub idle_draft : (j : Job) → j.task.stored ≡ [] → goal_of j.task None ≡ None → RightDraft
idle_draft j stored goal = record {
  draft = record { job = j; answer = None; next = next_moment j.task None None [] };
  right = record { answer = idle_without_records j.task stored goal; next = next_without_records j.task stored };
}

abbrev pub act : Step
act = acts 0 None

-- the turn begins, the window is entered, two events are taken in, and both parts are scanned
abbrev pub up_to_scans : List Step
up_to_scans = act ∷ act ∷ act ∷ act ∷ act ∷ act ∷ []

abbrev pub first_draft : RightDraft
first_draft = idle_draft (job_after up_to_scans 0) refl refl

abbrev pub up_to_second : List Step
up_to_second = up_to_scans ++ acts 0 (Some first_draft) ∷ []

abbrev pub second_draft : RightDraft
second_draft = idle_draft (job_after up_to_second 1) refl refl

abbrev pub alone : List Step
alone = up_to_second ++ acts 0 (Some second_draft) ∷ act ∷ []

-- a worker is told of the first two events, scans a part and, later, plans for the first client; a scan that comes too late
-- and a doubled plan are left
abbrev pub with_worker : List Step
with_worker =
    act ∷ act ∷ act ∷ act ∷ publishes ∷ tells 1 ∷ learns 1 ∷ scans 1 2 0 Packets ∷ act ∷ scans 1 2 0 Packets ∷ act ∷ publishes
    ∷ plans 1 4 0 first_draft ∷ plans 1 4 0 first_draft ∷ act ∷ act ∷ acts 0 (Some second_draft) ∷ act ∷ []

-- the second sending is refused, and both clients are idle
abbrev pub idle_client : ℕ → ClientReport
idle_client name = record { id = name ∷ []; outcome = idle None; too_big = [] }

-- what a run reports in its first turn
abbrev pub clients_in : List Step → Option (List ClientReport)
clients_in steps = option_map (λ (r : TurnReport). r.clients) (slice_get (world_after a_script steps).done 0)

pub record Examples : Type 0 where
  pub alone_clients : clients_in alone ≡ Some (idle_client 1 ∷ idle_client 2 ∷ [])
  pub alone_refused : option_map (λ (r : TurnReport). length r.refused) (slice_get (world_after a_script alone).done 0) ≡ Some 1
  pub worker_clients : clients_in with_worker ≡ Some (idle_client 1 ∷ idle_client 2 ∷ [])
  pub worker_drafts : length (world_after a_script with_worker).drafts ≡ 2
