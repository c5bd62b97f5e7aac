-- What came of a client in a turn, and why.
use Rattle.std.specs.Prelude.{◌≡◌, ℕ, ◌+◌, List, map, All, Option, None, IsSomeAnd, is_some}
use Rattle.rb_core_model.specs.Standing.{ClientState}
use Rattle.rb_book.specs.Book.{record_at}
use Rattle.rb_book.specs.Header.{Record}
use Rattle.rb_plan_client.specs.Draft.{Job}
use Rattle.rb_plan_client.specs.Reach.{IsReach}
use Rattle.rb_plan_client.specs.Task.{Task, view_of}
use Rattle.rb_step.specs.View.{View, client_of}
use Rattle.rb_super_turn.specs.Report.{Outcome, PlanReport, held, idle, planned}
use Rattle.rb_super_turn.specs.Turns.{update_of, IsOutcome}
use Rattle.rb_explain_plan.specs.Charges.{IsChargesOf}
use Rattle.rb_explain.specs.Heights.{known_heights}
use Rattle.rb_explain.specs.Idle.{IsIdleReason, OwesAny}
use Rattle.rb_explain_plan.specs.Plan.{IsPlanExplained}
use Rattle.rb_explain_plan.specs.Unreachable.{IsUnreachableExplained}
use Rattle.rb_explain.specs.Refresh.{refresh_in}
use Rattle.rb_explain.specs.Waiting.{IsWaiting}
use Rattle.rb_explain.specs.declared.client.ClientExplanation.{ClientExplanation}
use Rattle.rb_explain.specs.declared.client.StoredHeight.{StoredHeight}
use Rattle.rb_explain.specs.declared.client.Why.{Why}
use Rattle.rb_explain.specs.declared.client.Why.TheVariants.{Held, Idle, Planned, Unreachable}
use Rattle.rb_explain.specs.declared.wanted.Detail.{Detail}

-- a stored height's record has expired from this moment on
abbrev pub IsExpiry : View → StoredHeight → Type 0
IsExpiry v s = IsSomeAnd (record_at v.book s.height) (λ (r : Record). s.expiry ≡ r.time + v.options.period)

-- the stored heights, each with its expiry
pub record AreStored (v : View) (stored : List StoredHeight) : Type 0 where
  pub heights : map (λ (s : StoredHeight). s.height) stored ≡ v.stored
  pub expiries : All (IsExpiry v) stored

-- an outcome is right for a task, whatever the client that it came to has sent before
abbrev pub IsRight : Task → Outcome → Type 0
IsRight t outcome = (c : ClientState) × IsOutcome t c outcome

-- the greatest height that the client can be brought to, where it has a goal or is owed packet messages; else none is told
abbrev pub IsReachFor : Task → Outcome → Option ℕ → Type 0
IsReachFor t (held number) reach = reach ≡ None
IsReachFor t (idle next) reach = (OwesAny t → IsReach (client_of (view_of t)) reach) × ((OwesAny t → ⊥) → reach ≡ None)
IsReachFor t (planned p) reach = IsReach (client_of (view_of t)) reach

-- why an outcome is as it is, as much as the detail asks: the fewest updates, where they had to be searched; and of an unreachable goal up to
-- so many steps, by the labels of the report
abbrev pub IsWhy : {A : Type 0} → Task → Outcome → Detail → Why A → Type 0
IsWhy t (held number) detail Held = Unit {0}
IsWhy t (held number) detail _ = ⊥
IsWhy t (idle next) detail (Idle reason) = IsIdleReason t reason
IsWhy t (idle next) detail _ = ⊥
IsWhy t (planned p) detail (Planned x) =
    IsSomeAnd p.plan (λ (q : PlanReport). IsPlanExplained (view_of t) p.goal (map update_of q.updates) detail.has_fewest x)
IsWhy t (planned p) detail (Unreachable x) = (p.plan ≡ None) × IsUnreachableExplained (view_of t) p.goal p.labels detail.most x
IsWhy t (planned p) detail _ = ⊥

-- what came of a client that was as in this job, and as much as the detail asks: the known heights, and why
pub record IsClientExplained {A : Type 0} (j : Job) (outcome : Outcome) (detail : Detail) (x : ClientExplanation A) : Type 0 where
  pub client : x.client ≡ j.client
  pub window : x.window ≡ j.task.window
  pub charges : IsChargesOf j.task.config.fees x.charges
  pub asked : x.is_asked ≡ is_some j.task.asked
  pub stored : AreStored (view_of j.task) x.stored.items
  pub reach : IsReachFor j.task outcome x.reach
  pub heights : x.heights.items ≡ known_heights j.task.book detail.has_heights
  pub waiting : IsWaiting j.task outcome x.reach x.waiting.items
  pub refresh : x.refresh ≡ refresh_in j.task outcome x.reach
  pub why : IsWhy j.task outcome detail x.why
