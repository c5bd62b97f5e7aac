-- Laws of what a client is to be brought to.
use Rattle.std.specs.Prelude.{◌≡◌, ◌≢◌, ℕ, ◌<◌, ◌≤◌, true, [], map, All, Option, Some, None, IsSomeAnd, is_some, if◌then◌else◌}
use Rattle.rb_base.specs.Window.{Span}
use Rattle.rb_book.specs.Invariant.{IsBook}
use Rattle.rb_script_types.specs.declared.config.RefreshTo.TheVariants.{Newer}
use Rattle.rb_script_types.specs.declared.waits.Waits.{Waits}
use Rattle.rb_scan.specs.Owed.{wanted}
use Rattle.rb_step.specs.View.{client_of}
use Rattle.rb_plan_client.specs.Draft.{Plan, Planned, IsAnswer}
use Rattle.rb_plan_client.specs.Reach.{IsReach}
use Rattle.rb_plan_client.specs.Task.{PathTask, Task, Message, view_of, ready_messages, presses, first_goal, goal_of, messages_of, next_moment}

-- no message may wait
abbrev pub WaitsNot : Waits → Type 0
WaitsNot w = (w.receive ≡ 0) × (w.acknowledge ≡ 0) × (w.timeout ≡ 0)

-- the client is refreshed by age, as in versions 1 to 3
abbrev pub IsByAge : Task → Type 0
IsByAge t = t.config.refresh_to ≢ Newer

-- the goal and the messages are those of all ready messages
pub record IsPrompt (t : Task) (reach : Option ℕ) : Type 0 where
  pub goal : goal_of t reach ≡ first_goal t reach (wanted (map (λ (m : Message). m.packet) (ready_messages t reach)))
  pub messages : (proof : Option ℕ) → messages_of t reach proof ≡ (if is_some t.asked then [] else ready_messages t reach)

-- where no message may wait, all that are ready go at once, if the client is refreshed by age
abbrev pub NoneWaits : Type 0
NoneWaits = (t : Task) (reach : Option ℕ) → IsByAge t → IsReach (client_of (view_of t)) reach → All (λ (p : PathTask). WaitsNot p.waits) t.paths → IsPrompt t reach

-- Where a message presses and no goal was asked for, a client that is refreshed by age is planned for, its goal can be reached, and all that are
-- ready go.
abbrev pub PressingGoes : Type 0
PressingGoes =
    (t : Task) (reach : Option ℕ) (answer : Option Planned) → IsByAge t → IsReach (client_of (view_of t)) reach → t.asked ≡ None → presses t reach ≡ true → IsAnswer t answer
    → IsSomeAnd answer (λ (a : Planned). IsSomeAnd a.plan (λ (p : Plan). p.messages ≡ ready_messages t reach))

-- the task in another window
abbrev pub in_window : Task → Span → Task
in_window t window = record t { window = window }

-- Of a client without a goal that is refreshed by age: while nothing new is seen and it can be brought as high as now, no window that ends later gives it a goal
-- before the moment that is said, and none ever does where none is said; one that ends at that moment does.
abbrev pub NextIsNext : Type 0
NextIsNext =
    (t : Task) (reach proof : Option ℕ) (window : Span) → IsByAge t → IsBook t.book → IsReach (client_of (view_of t)) reach
    → IsReach (client_of (view_of (in_window t window))) reach
    → goal_of t reach ≡ None → t.window.until ≤ window.until → window.until ≤ 100000000000000000000
    → (((next : ℕ) → next_moment t reach proof [] ≡ Some next → window.until < next) → goal_of (in_window t window) reach ≡ None)
    × (next_moment t reach proof [] ≡ Some window.until → goal_of (in_window t window) reach ≢ None)
