-- When a client without a goal has one (own choice).
use Rattle.std.specs.Prelude.{◌≡◌, ◌≢◌, ℕ, ◌<◌, ◌≤◌, [], All, Option, Some, None, IfSome, IsSomeAnd, slice_get, List}
use Rattle.rb_base.specs.Window.{Span}
use Rattle.rb_scan.specs.declared.message.Kind.TheVariants.{Receive}
use Rattle.rb_scan.specs.declared.message.PacketMsg.{PacketMsg}
use Rattle.rb_step.specs.View.{IsView, client_of}
use Rattle.rb_plan_client.specs.Laws.{in_window}
use Rattle.rb_plan_client.specs.Next.{IsNext}
use Rattle.rb_plan_client.specs.Reach.{IsReach}
use Rattle.rb_plan_client.specs.Task.{PathTask, Task, view_of, goal_of}
use Rattle.rb_super_turn.specs.Report.{idle, Report}
use Rattle.rb_super_turn.specs.Script.{Script}
use Rattle.rb_super.specs.Fewest.{ClientTurn, IsRun}

-- only a receive has a timeout time, and its packet may have expired by then (ICS 4)
abbrev pub IsTimely : PacketMsg → Type 0
IsTimely m = IfSome m.timeout (λ time. (m.kind ≡ Receive) × IsSomeAnd m.expires (λ moment. moment ≤ time))

-- so it is of all that is owed
abbrev pub AreTimely : Task → Type 0
AreTimely t = All (λ (p : PathTask). All IsTimely p.owed) t.paths

-- a client has no goal in a window that ends before the moment, nor in any where there is none, and has one in a window that ends then
pub record IsFirst (t : Task) (reach : Option ℕ) (window : Span) (next : Option ℕ) : Type 0 where
  pub before : ((moment : ℕ) → next ≡ Some moment → window.until < moment) → goal_of (in_window t window) reach ≡ None
  pub at_moment : next ≡ Some window.until → goal_of (in_window t window) reach ≢ None

-- a later window, in which the client can be brought as high as now
pub record IsLaterWindow (t : Task) (reach : Option ℕ) (window : Span) : Type 0 where
  pub later : t.window.until ≤ window.until
  pub in_range : window.until ≤ 100000000000000000000
  pub as_high : IsReach (client_of (view_of (in_window t window))) reach

-- of a client without a goal, while nothing new is seen: the moment that is said is the first at which it has one
abbrev pub NextIsNext : Type 0
NextIsNext =
    (t : Task) (reach next : Option ℕ) (window : Span) → IsView (view_of t) → AreTimely t → IsReach (client_of (view_of t)) reach → goal_of t reach ≡ None
    → IsNext t [] next → IsLaterWindow t reach window → IsFirst t reach window next

-- so it is of every client that a script's turn reports as idle
abbrev pub IdleUntilNext : Type 0
IdleUntilNext =
    (script : Script) (report : Report) (place turn : ℕ) (ks : List ClientTurn) (k : ClientTurn) (next : Option ℕ) (window : Span) → IsRun script report place ks
    → slice_get ks turn ≡ Some k → k.report.outcome ≡ idle next → IsLaterWindow k.task k.reach window → IsFirst k.task k.reach window next
