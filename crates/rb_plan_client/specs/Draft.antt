-- What is planned for a client (own choice, over the least lists, the exact labellings and the least cuts).
use Rattle.std.specs.Prelude.{◌≡◌, ℕ, ◌+◌, ◌<◌, Bool, true, false, List, [], ◌++◌, length, map, Option, Some, None, MatchOption}
use Rattle.std.specs.Option.{option_map_or}
use Rattle.rb_batch.specs.Cut.{IsLeastCut, IsCutApart, IsFirstTooBig}
use Rattle.rb_batch.specs.Limits.{TransactionLimits}
use Rattle.rb_batch.specs.declared.transaction.Transaction.{Transaction}
use Rattle.rb_script_types.specs.declared.goal.Goal.{Goal}
use Rattle.rb_plan_types.specs.declared.labelling.Label.{Label}
use Rattle.rb_plan_types.specs.Labelling.{IsLabelling, IsExact, label_of}
use Rattle.rb_plan_types.specs.Least.{IsLeast, IsUnreachable}
use Rattle.rb_plan_types.specs.ProofHeight.{IsProofHeight}
use Rattle.rb_step.specs.LightClient.{Update}
use Rattle.rb_step.specs.View.{client_of}
use Rattle.rb_plan_client.specs.Next.{IsNext}
use Rattle.rb_plan_client.specs.Reach.{IsReach}
use Rattle.rb_plan_client.specs.Task.{Task, Message, view_of, goal_of, messages_of, is_apart, gas_of, gases}

-- the height that a batch proves its packets at, and its transactions
pub record Batch : Type 0 where
  pub proof : ℕ
  pub transactions : List Transaction

-- how messages are sent: there are none, the message with this number is over the gas limit alone, or in a batch
pub data Sending : Type 0 where
  nothing : Sending
  too_big : ℕ → Sending
  batched : Batch → Sending

-- the updates, then the packet messages, and how they are sent
pub record Plan : Type 0 where
  pub updates : List Update
  pub messages : List Message
  pub sending : Sending

-- a goal, the exact labelling, and the plan; none where the goal can't be reached
pub record Planned : Type 0 where
  pub goal : Goal
  pub labels : List Label
  pub plan : Option Plan

-- ---- what is right for a task

-- the least cut of all messages, the updates first, or the updates apart from the others
abbrev pub IsCut : Bool → TransactionLimits → List ℕ → List ℕ → List Transaction → Type 0
IsCut true limits us ms cut = IsCutApart limits us ms cut
IsCut false limits us ms cut = IsLeastCut limits (us ++ ms) cut

pub record IsBatch (t : Task) (reach : Option ℕ) (p : Plan) (b : Batch) : Type 0 where
  pub some : 0 < length p.updates + length p.messages
  pub proof : IsProofHeight (client_of (view_of t)) p.updates (Some b.proof)
  pub transactions : IsCut (is_apart t reach) t.config.limits (map (gas_of t) p.updates) (map (λ (m : Message). m.gas) p.messages) b.transactions

abbrev pub IsSending : Task → Option ℕ → Plan → Sending → Type 0
IsSending t reach p nothing = (p.updates ≡ []) × (p.messages ≡ [])
IsSending t reach p (too_big index) = IsFirstTooBig t.config.limits (gases t p.updates p.messages) index
IsSending t reach p (batched b) = IsBatch t reach p b

-- the least list of updates that meets the goal, the messages that go with it, and the cut of them all
pub record IsPlan (t : Task) (reach : Option ℕ) (goal : Goal) (p : Plan) : Type 0 where
  pub least : IsLeast (client_of (view_of t)) goal p.updates
  pub proof : Option ℕ
  pub is_proof : IsProofHeight (client_of (view_of t)) p.updates proof
  pub messages : p.messages ≡ messages_of t reach proof
  pub sending : IsSending t reach p p.sending

pub record IsPlanned (t : Task) (p : Planned) : Type 0 where
  pub reach : Option ℕ
  pub is_reach : IsReach (client_of (view_of t)) reach
  pub goal : goal_of t reach ≡ Some p.goal
  pub labels : IsLabelling p.labels
  pub exact : IsExact (client_of (view_of t)) (label_of p.labels)
  pub plan : MatchOption p.plan (IsUnreachable (client_of (view_of t)) p.goal) (IsPlan t reach p.goal)

-- there is no goal
pub record IsIdle (t : Task) : Type 0 where
  pub reach : Option ℕ
  pub is_reach : IsReach (client_of (view_of t)) reach
  pub goal : goal_of t reach ≡ None

-- what is planned for a task, or none where it has no goal
abbrev pub IsAnswer : Task → Option Planned → Type 0
IsAnswer t None = IsIdle t
IsAnswer t (Some p) = IsPlanned t p

-- ---- drafts

-- a client, by its place, with its task, the number of its next plan, and whether a batch of its is open
pub record Job : Type 0 where
  pub client : ℕ
  pub task : Task
  pub plan : ℕ
  pub held : Bool

-- a job with what was planned for it, and when the client has a goal next
pub record Draft : Type 0 where
  pub job : Job
  pub answer : Option Planned
  pub next : Option ℕ

-- the updates that are planned: none where there is no goal, or where no list meets it
abbrev pub planned_updates : Option Planned → List Update
planned_updates answer = option_map_or (λ (p : Planned). option_map_or (λ (plan : Plan). plan.updates) p.plan []) answer []

-- what every draft keeps
pub record IsDraft (d : Draft) : Type 0 where
  pub answer : IsAnswer d.job.task d.answer
  pub next : IsNext d.job.task (planned_updates d.answer) d.next
