-- What goes in time (own choice, over what a script's turns report).
use Rattle.std.specs.Prelude.{◌≡◌, ℕ, ◌≤◌, Option, Some, None, IsSomeAnd, slice_get}
use Rattle.std.specs.List.{Contains}
use Rattle.rb_base.specs.Window.{Span}
use Rattle.rb_book.specs.Invariant.{IsBook}
use Rattle.rb_scan.specs.Owed.{ready_beyond}
use Rattle.rb_scan.specs.declared.message.PacketMsg.{PacketMsg}
use Rattle.rb_script_types.specs.declared.config.RefreshTo.TheVariants.{Newer}
use Rattle.rb_step.specs.View.{client_of}
use Rattle.rb_plan_client.specs.Reach.{IsReach}
use Rattle.rb_plan_client.specs.Task.{PathTask, Task, Message, view_of, going_on, message_on, near_reach, press_moment}
use Rattle.rb_core_model.specs.Standing.{ClientState, Standing, task_in}
use Rattle.rb_super_turn.specs.Report.{SendingReport, nothing, too_big, batched, PlanReport, Outcome, held, idle, planned, ClientReport, TurnReport}
use Rattle.rb_super_turn.specs.Script.{Turn}
use Rattle.rb_super_turn.specs.Turns.{before_plans, IsTurnReport}
use Rattle.rb_super.specs.Pressing.{KeepsNoneBack}

-- a message of one of the client's paths that only an update brings across, and that presses by the end of the window
pub record Presses (t : Task) (reach : Option ℕ) (p : PathTask) (m : PacketMsg) : Type 0 where
  pub path : Contains t.paths p
  pub far : Contains (ready_beyond (going_on t p) p.order (near_reach t) reach) m
  pub moment : ℕ
  pub from_then_on : press_moment t p.waits m ≡ Some moment
  pub by_the_end : moment ≤ t.window.until

-- a plan has a message in its batch; where some message of it is over the gas limit alone, it has no batch
abbrev pub IsInBatchUnlessTooBig : Message → PlanReport → SendingReport → Type 0
IsInBatchUnlessTooBig m p nothing = ⊥
IsInBatchUnlessTooBig m p (too_big index) = Unit {0}
IsInBatchUnlessTooBig m p (batched b) = Contains p.messages m

abbrev pub GoesUnlessTooBig : Message → Outcome → Type 0
GoesUnlessTooBig m (held number) = ⊥
GoesUnlessTooBig m (idle next) = ⊥
GoesUnlessTooBig m (planned a) = IsSomeAnd a.plan (λ (p : PlanReport). IsInBatchUnlessTooBig m p p.sending)

-- a client, by its place, with its report in a turn and what it is planned by there, up to its reach
pub record IsPlannedIn (s : Standing) (turn : Turn) (r : TurnReport) (place : ℕ) (c : ClientState) (report : ClientReport) (t : Task) (reach : Option ℕ) : Type 0 where
  pub is_turn : IsTurnReport s turn r
  pub is_client : slice_get (before_plans s turn).clients place ≡ Some c
  pub is_report : slice_get r.clients place ≡ Some report
  pub window : Span
  pub is_window : (before_plans s turn).window ≡ Some window
  pub task : t ≡ task_in (before_plans s turn) window place c
  pub is_reach : IsReach (client_of (view_of t)) reach

-- a message that presses in a turn goes in it, unless its client has an open batch, or what it was asked for keeps messages back; of a client
-- that is refreshed by gain, if heights and times rise together in its book
abbrev pub MessagesGoInTime : Type 0
MessagesGoInTime =
    (s : Standing) (turn : Turn) (r : TurnReport) (place : ℕ) (c : ClientState) (report : ClientReport) (t : Task) (reach : Option ℕ) (p : PathTask) (m : PacketMsg)
    → IsPlannedIn s turn r place c report t reach → (t.config.refresh_to ≡ Newer → IsBook t.book) → c.batch ≡ None → KeepsNoneBack c.asked c.config.refresh_to → Presses t reach p m
    → GoesUnlessTooBig (message_on p m) report.outcome
