-- A turn, explained: its report, and what came of each client that is wanted, as things stood where the clients were planned.
use Rattle.std.specs.Prelude.{◌≡◌, ℕ, Bool, true, false, List, length, Option, Some, None, IsSomeAnd, is_some, slice_get}
use Rattle.rb_base.specs.Window.{Span}
use Rattle.rb_core_model.specs.Machine.{State, client_view}
use Rattle.rb_core_model.specs.Standing.{ClientState, Standing, task_in}
use Rattle.rb_plan_client.specs.Draft.{Job}
use Rattle.rb_super_turn.specs.Script.{Turn}
use Rattle.rb_super_turn.specs.Turns.{before_plans, IsTurnReport}
use Rattle.rb_super_turn.specs.Views.{outcome_view, turn_report_view}
use Rattle.rb_super_turn.specs.declared.report.ClientReport.{ClientReport}
use Rattle.rb_explain.specs.Client.{IsClientExplained, IsRight}
use Rattle.rb_explain.specs.Subjects.{AreSubjects}
use Rattle.rb_explain.specs.Wanted.{has_client, has_turn}
use Rattle.rb_explain.specs.declared.client.ClientExplanation.{ClientExplanation}
use Rattle.rb_explain.specs.declared.turn.TurnExplanation.{TurnExplanation}
use Rattle.rb_explain.specs.declared.wanted.Detail.{Detail}
use Rattle.rb_explain.specs.declared.wanted.Wanted.{Wanted}

-- a client, by its place, was as in this job, as things stand
pub record IsJobFor (s : Standing) (place : ℕ) (known : ClientState) (j : Job) : Type 0 where
  pub client : j.client ≡ place
  pub window : Span
  pub is_window : s.window ≡ Some window
  pub task : j.task ≡ task_in s window place known

-- why its outcome is as it is, by what it was as things stand
pub record IsExplainedIn {A : Type 0} (s : Standing) (detail : Detail) (place : ℕ) (known : ClientState) (r : ClientReport A) (x : ClientExplanation A) : Type 0 where
  pub job : Job
  pub is_job : IsJobFor s place known job
  pub explained : IsClientExplained job (outcome_view r.outcome) detail x

-- a client that is wanted is explained; of another one nothing is told
abbrev pub IsToldIn : {A : Type 0} → Standing → Detail → ℕ → ClientState → ClientReport A → Bool → Option (ClientExplanation A) → Type 0
IsToldIn s detail place known r true o = IsSomeAnd o (IsExplainedIn s detail place known r)
IsToldIn s detail place known r false o = o ≡ None

-- its window and its report are the turn's, and what its events tell of is there where the turn is wanted; for each client of the report
-- there is one place, where it is explained if it is wanted, by its report and by what it was where clients were planned
pub record IsTurnExplained {A : Type 0} (start : Standing) (turn : Turn) (wanted : Wanted) (x : TurnExplanation A) : Type 0 where
  pub window : x.window ≡ turn.window
  pub report : IsTurnReport start turn (turn_report_view x.report)
  pub subjects : AreSubjects (has_turn wanted x.turn) turn.events x.subjects.items
  pub count : length x.clients.items ≡ length x.report.clients.items
  pub clients : (place : ℕ) (known : ClientState) (r : ClientReport A) → slice_get (before_plans start turn).clients place ≡ Some known → slice_get x.report.clients.items place ≡ Some r
      → IsSomeAnd (slice_get x.clients.items place) (IsToldIn (before_plans start turn) wanted.detail place known r (has_client wanted x.turn place))

-- it is such an explanation of some turn, which was wanted
pub record IsExplanation {A : Type 0} (x : TurnExplanation A) : Type 0 where
  pub wanted : Wanted
  pub start : Standing
  pub turn : Turn
  pub right : IsTurnExplained start turn wanted x
  pub is_wanted : has_turn wanted x.turn ≡ true

-- ---- (internal) clients one after another

-- the jobs of clients that were seen, which are those that are asked for
pub record AreJobs (s : State) (asked : ℕ → Bool) (jobs : List (Option Job)) : Type 0 where
  pub count : length jobs ≡ length s.standing.clients
  pub each : (place : ℕ) (job : Job) → slice_get jobs place ≡ Some (Some job) → client_view s place ≡ Some job
  pub seen : (place : ℕ) (o : Option Job) → slice_get jobs place ≡ Some o → is_some o ≡ asked place

-- an outcome is right for a job
abbrev pub IsRightFor : {A : Type 0} → Job → ClientReport A → Type 0
IsRightFor job r = IsRight job.task (outcome_view r.outcome)

-- the outcomes are right for the jobs
abbrev pub AreRight : {A : Type 0} → List (Option Job) → List (ClientReport A) → Type 0
AreRight {A} jobs rs = (place : ℕ) (job : Job) (r : ClientReport A) → slice_get jobs place ≡ Some (Some job) → slice_get rs place ≡ Some r → IsRightFor job r

-- what is told of a client that was seen is right; of one that wasn't, nothing is told
abbrev pub IsExplainedAt : {A : Type 0} → Detail → Option Job → ClientReport A → Option (ClientExplanation A) → Type 0
IsExplainedAt detail None r o = o ≡ None
IsExplainedAt detail (Some job) r None = ⊥
IsExplainedAt detail (Some job) r (Some x) = IsClientExplained job (outcome_view r.outcome) detail x

abbrev pub AreExplained : {A : Type 0} → Detail → List (Option Job) → List (ClientReport A) → List (Option (ClientExplanation A)) → Type 0
AreExplained {A} detail jobs rs xs = (place : ℕ) (job : Option Job) (r : ClientReport A) (x : Option (ClientExplanation A)) → slice_get jobs place ≡ Some job → slice_get rs place ≡ Some r
    → slice_get xs place ≡ Some x → IsExplainedAt detail job r x
