-- Each client is sent the updates of its least list (own choice, over what the last turn of a script plans).
use Rattle.std.specs.Prelude.{◌≡◌, ◌⊎◌, ◌-◌, ◌<◌, ℕ, List, [], Option, IsSome, IsSomeAnd, None, Some, length, map, slice_get}
use Rattle.std.specs.declared.alloc.Global.{Global}
use Rattle.std.specs.List.{AllByRecursion, AllZip, enumerate_from, flat_map}
use Rattle.rb_base.specs.Window.{Span}
use Rattle.rb_batch.specs.Cut.{IsFirstTooBig}
use Rattle.rb_core_model.specs.Standing.{ClientState, Standing, task_in}
use Rattle.rb_plan_client.specs.Draft.{IsPlan, Plan}
use Rattle.rb_plan_client.specs.Task.{Task, gases, view_of}
use Rattle.rb_plan_types.specs.Least.{IsLeast, IsUnreachable}
use Rattle.rb_script_types.specs.declared.goal.Goal.{Goal}
use Rattle.rb_step.specs.LightClient.{Update}
use Rattle.rb_step.specs.View.{client_of}
use Rattle.rb_super_turn.specs.Judging.{IsPlanPhase, IsWanted}
use Rattle.rb_super_turn.specs.Script.{Script}
use Rattle.rb_super_turn.specs.Turns.{IsReportOf}
use Rattle.rb_super_turn.specs.Views.{report_view}
use Rattle.rb_super_turn.specs.declared.report.Report.{Report}
use Rattle.rb_messages.specs.Updates.{Sent, last_updates}

-- an update, as lists of updates have it
abbrev pub update_of : Sent → Update
update_of u = record { height = u.height; trusted = u.trusted }

-- the updates are those of the least list that meets the goal of a client
pub record IsLeastList (t : Task) (updates : List Update) : Type 0 where
  pub goal : Goal
  pub wanted : IsWanted t (Some goal)
  pub least : IsLeast (client_of (view_of t)) goal updates

-- a message of what is planned for a goal is over the gas limit alone
pub record IsOverLimit (t : Task) (goal : Goal) : Type 0 where
  pub reach : Option ℕ
  pub plan : Plan
  pub planned : IsPlan t reach goal plan
  pub index : ℕ
  pub too_big : IsFirstTooBig t.config.limits (gases t plan.updates plan.messages) index

-- the goal of a client can't be met by acceptable updates, or the messages that meet it can't be sent
pub record IsStuck (t : Task) : Type 0 where
  pub goal : Goal
  pub wanted : IsWanted t (Some goal)
  pub stuck : IsUnreachable (client_of (view_of t)) goal ⊎ IsOverLimit t goal

-- why nothing is sent to a client: a batch of it is open, it has no goal, or that can't be met
abbrev pub IsUnsent : Task → ClientState → Type 0
IsUnsent t c = IsSome c.batch ⊎ IsWanted t None ⊎ IsStuck t

-- what is sent to a client, as it is known and with its task: its least list in order, or nothing
abbrev pub IsSentTo : Task → ClientState → List Sent → Type 0
IsSentTo t c sent = IsLeastList t (map update_of sent) ⊎ ((sent ≡ []) × IsUnsent t c)

-- what is sent to the client at a place of a script, as things stand
pub record IsPart (script : Script) (s : Standing) (c : ℕ × ClientState) (sent : List Sent) : Type 0 where
  pub own : IsSomeAnd (slice_get script.config.clients c.0) (λ config. AllByRecursion (λ u. u.client ≡ config.id) sent)
  pub window : Span
  pub is_window : s.window ≡ Some window
  pub updates : IsSentTo (task_in s window c.0 c.1) c.1 sent

-- what is sent to all clients of a script, in their order, where the clients of its last turn are planned
pub record AreParts (script : Script) (sent : List Sent) : Type 0 where
  pub standing : Standing
  pub phase : IsPlanPhase script (length script.turns - 1) standing
  pub clients : length standing.clients ≡ length script.config.clients
  pub parts : List (List Sent)
  pub each : AllZip (IsPart script standing) (enumerate_from 0 standing.clients) parts
  pub joined : sent ≡ flat_map (λ own. own) parts

-- so it is of what the last turn of a report sends (`IsSendingOf` of the program), if the script has turns
abbrev pub UpdatesAreLeast : Type 0
UpdatesAreLeast =
    (script : Script) (report : Report Global) (s : Standing) → IsReportOf script (report_view report) → 0 < length script.turns
    → AreParts script (last_updates s script.config.clients report.turns.items)
