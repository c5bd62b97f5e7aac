-- Why a client has no goal, the first reason that applies (own choice).
use Rattle.std.specs.Prelude.{◌≡◌, ℕ, ◌<◌, true, false, [], length, Any, Option}
use Rattle.rb_plan_client.specs.Reach.{IsReach}
use Rattle.rb_plan_client.specs.Task.{PathTask, Task, going_on, ready_messages, view_of}
use Rattle.rb_step.specs.LightClient.{IsSource}
use Rattle.rb_step.specs.View.{client_of}
use Rattle.rb_explain.specs.declared.idle.IdleReason.{IdleReason}
use Rattle.rb_explain.specs.declared.idle.IdleReason.TheVariants.{NothingLive, MessagesWait, NothingProved, NothingGoes, NothingYoung, NothingDue}
use Rattle.rb_explain.specs.Refresh.{is_aged}

-- a height is stored and live
abbrev pub HasSource : Task → Type 0
HasSource t = (h : ℕ) × IsSource (client_of (view_of t)) h

-- a path owes the client packet messages
abbrev pub Owes : PathTask → Type 0
Owes p = 0 < length p.owed

abbrev pub OwesAny : Task → Type 0
OwesAny t = Any Owes t.paths

-- a message of a path can go
abbrev pub Goes : Task → PathTask → Type 0
Goes t p = 0 < length (going_on t p)

abbrev pub AnyGoes : Task → Type 0
AnyGoes t = Any (Goes t) t.paths

-- a message of one of the client's paths is ready
pub record HasReady (t : Task) : Type 0 where
  pub reach : Option ℕ
  pub is_reach : IsReach (client_of (view_of t)) reach
  pub ready : 0 < length (ready_messages t reach)

-- no message of its paths is
pub record HasNoneReady (t : Task) : Type 0 where
  pub reach : Option ℕ
  pub is_reach : IsReach (client_of (view_of t)) reach
  pub none : ready_messages t reach ≡ []

abbrev pub IsIdleReason : Task → IdleReason → Type 0
IsIdleReason t NothingLive = ¬ HasSource t
IsIdleReason t MessagesWait = HasSource t × HasReady t
IsIdleReason t NothingProved = HasSource t × AnyGoes t × HasNoneReady t
IsIdleReason t NothingGoes = HasSource t × OwesAny t × (¬ AnyGoes t)
IsIdleReason t NothingYoung = HasSource t × (¬ OwesAny t) × (is_aged t ≡ true)
IsIdleReason t NothingDue = HasSource t × (¬ OwesAny t) × (is_aged t ≡ false)
