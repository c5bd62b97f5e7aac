-- What is said of an answer that was made for a client in a turn (own choice, over the certifier's verdicts).
use Rattle.std.specs.Option.{option_map}
use Rattle.std.specs.Prelude.{◌≡◌, ℕ, List, [], ◌∷◌, take, map, slice_get, Option, Some, None, MatchOption}
use Rattle.rb_base.specs.Window.{Span}
use Rattle.rb_cert.specs.declared.verdict.Judgement.{Judgement}
use Rattle.rb_cert.specs.Judgement.{Judges}
use Rattle.rb_plan_client.specs.Reach.{IsReach}
use Rattle.rb_core_model.specs.Standing.{ClientState, Standing, opening_standing, task_in}
use Rattle.rb_plan_client.specs.Task.{Task, view_of, goal_of}
use Rattle.rb_script_types.specs.declared.goal.Goal.{Goal}
use Rattle.rb_plan_types.specs.Answer.{Shows}
use Rattle.rb_plan_types.specs.Labelling.{Labels, IsSound, IsExact, label_of}
use Rattle.rb_step.specs.LightClient.{Update}
use Rattle.rb_step.specs.View.{View, client_of}
use Rattle.rb_super_turn.specs.Report.{PlanReport, PlannedReport, planned, ClientReport, TurnReport, Report}
use Rattle.rb_super_turn.specs.Script.{Turn, Script}
use Rattle.rb_super_turn.specs.Turns.{before_plans, update_of, IsTurnReport, after_turn}

-- ---- where a client stands

-- the turns lead from how things stand to how they stand then, each by a report of it as those before it left things
abbrev pub Leads : Standing → List Turn → Standing → Type 0
Leads s [] u = s ≡ u
Leads s (t ∷ ts) u = (r : TurnReport) × IsTurnReport s t r × Leads (after_turn s t r) ts u

-- how things stand after the last turn of a script
abbrev pub IsEndOf : Script → Standing → Type 0
IsEndOf script s = Leads (opening_standing script.config) script.turns s

-- how things stand where the clients of a script's turn are planned; turns are counted from 0
pub record IsPlanPhase (script : Script) (turn : ℕ) (s : Standing) : Type 0 where
  pub begun : Standing
  pub earlier : Leads (opening_standing script.config) (take turn script.turns) begun
  pub this : Turn
  pub is : slice_get script.turns turn ≡ Some this
  pub taken_in : s ≡ before_plans begun this

-- a client, by its place, as it is known then, and what a plan for it goes by in the window
pub record IsClientIn (s : Standing) (client : ℕ) (known : ClientState) (task : Task) : Type 0 where
  pub window : Span
  pub is_window : s.window ≡ Some window
  pub is_known : slice_get s.clients client ≡ Some known
  pub is_task : task ≡ task_in s window client known

-- what a client is to be brought to, by the greatest height that it can be brought to
pub record IsWanted (task : Task) (goal : Option Goal) : Type 0 where
  pub reach : Option ℕ
  pub is_reach : IsReach (client_of (view_of task)) reach
  pub is_goal : goal ≡ goal_of task reach

-- the goal that it is planned for: none while a batch of its is open
abbrev pub IsPlannedGoal : ClientState → Task → Option Goal → Type 0
IsPlannedGoal known task goal = MatchOption known.batch (IsWanted task goal) (λ b. goal ≡ None)

-- ---- what is said

-- the certifier's verdict, where there is a goal
abbrev pub IsVerdictFor : View → Option Goal → Labels → Option (List Update) → Option Judgement → Type 0
IsVerdictFor v None labels claim verdict = verdict ≡ None
IsVerdictFor v (Some goal) labels claim None = ⊥
IsVerdictFor v (Some goal) labels claim (Some verdict) = Judges (client_of v) labels goal claim verdict

-- the verdict on an answer for a client as things stand
pub record IsVerdictIn (s : Standing) (client : ℕ) (labels : Labels) (claim : Option (List Update)) (verdict : Option Judgement) : Type 0 where
  pub known : ClientState
  pub task : Task
  pub is : IsClientIn s client known task
  pub goal : Option Goal
  pub is_planned : IsPlannedGoal known task goal
  pub judged : IsVerdictFor (view_of task) goal labels claim verdict

-- the labelling is sound, and the claim true for the goal that the client is planned for as things stand
pub record IsRightAs (s : Standing) (client : ℕ) (labels : Labels) (claim : Option (List Update)) : Type 0 where
  pub known : ClientState
  pub task : Task
  pub is : IsClientIn s client known task
  pub goal : Goal
  pub is_planned : IsPlannedGoal known task (Some goal)
  pub sound : IsSound (client_of (view_of task)) labels
  pub shows : Shows (client_of (view_of task)) goal claim

-- the same of an exact labelling
pub record IsExactAs (s : Standing) (client : ℕ) (labels : Labels) (claim : Option (List Update)) : Type 0 where
  pub known : ClientState
  pub task : Task
  pub is : IsClientIn s client known task
  pub goal : Goal
  pub is_planned : IsPlannedGoal known task (Some goal)
  pub exact : IsExact (client_of (view_of task)) labels
  pub shows : Shows (client_of (view_of task)) goal claim

-- the verdict on an answer for a script's client in a turn
pub record IsVerdictOn (script : Script) (turn client : ℕ) (labels : Labels) (claim : Option (List Update)) (verdict : Option Judgement) : Type 0 where
  pub standing : Standing
  pub phase : IsPlanPhase script turn standing
  pub judged : IsVerdictIn standing client labels claim verdict

-- the answer is right for it
pub record IsRightIn (script : Script) (turn client : ℕ) (labels : Labels) (claim : Option (List Update)) : Type 0 where
  pub standing : Standing
  pub phase : IsPlanPhase script turn standing
  pub right : IsRightAs standing client labels claim

-- ---- answers of a report

-- the updates of a plan, or that there is none
abbrev pub claim_in : PlannedReport → Option (List Update)
claim_in p = option_map (λ (plan : PlanReport). map update_of plan.updates) p.plan

-- labels and claim are those that a report has for the client, by its place, in the turn
pub record IsReported (report : Report) (turn client : ℕ) (labels : Labels) (claim : Option (List Update)) : Type 0 where
  pub of_turn : TurnReport
  pub of_client : ClientReport
  pub answer : PlannedReport
  pub turn_is : slice_get report turn ≡ Some of_turn
  pub client_is : slice_get of_turn.clients client ≡ Some of_client
  pub outcome : of_client.outcome ≡ planned answer
  pub labels_are : labels ≡ label_of answer.labels
  pub claim_is : claim ≡ claim_in answer
