-- Reports, without where they lie in memory.
use Rattle.std.specs.Prelude.{ℕ, Bool, List, Option}
use Rattle.rb_batch.specs.declared.transaction.Transaction.{Transaction}
use Rattle.rb_plan_types.specs.declared.cost.Cost.{Cost}
use Rattle.rb_script_types.specs.declared.goal.Goal.{Goal}
use Rattle.rb_plan_types.specs.declared.labelling.Label.{Label}
use Rattle.rb_step.specs.LightClient.{Update}
use Rattle.rb_step.specs.Sent.{SentVotes}
use Rattle.rb_script_types.specs.declared.refusal.Refusal.{Refusal}
use Rattle.rb_plan_client.specs.Task.{Message}

-- an event that was refused, by its number in its turn, from 0
pub record RefusedEvent : Type 0 where
  pub event : ℕ
  pub refusal : Refusal

-- an update, its fee, and which votes it carries, where it carries only those that it needs
pub record PricedUpdate : Type 0 where
  pub update : Update
  pub fee : ℕ
  pub votes : Option SentVotes

pub record BatchReport : Type 0 where
  pub number : ℕ
  pub proof : ℕ
  pub transactions : List Transaction

pub data SendingReport : Type 0 where
  nothing : SendingReport
  too_big : ℕ → SendingReport
  batched : BatchReport → SendingReport

pub record PlanReport : Type 0 where
  pub updates : List PricedUpdate
  pub total : Cost
  pub messages : List Message
  pub sending : SendingReport

-- a goal, what was asked for and is out of reach, if it is, the exact labelling, the plan, and the moment at which the client has a goal next
pub record PlannedReport : Type 0 where
  pub goal : Goal
  pub beyond : Option Goal
  pub labels : List Label
  pub plan : Option PlanReport
  pub next : Option ℕ

-- a client is held by the batch of this number, idle with the moment at which it has a goal next, or planned for
pub data Outcome : Type 0 where
  held : ℕ → Outcome
  idle : Option ℕ → Outcome
  planned : PlannedReport → Outcome

-- a client, what comes of it, and the messages that are left out since they are over the gas limit alone
pub record ClientReport : Type 0 where
  pub id : List ℕ
  pub outcome : Outcome
  pub too_big : List Message

-- a settlement, its client by its identifier, and why it was refused, if it was
pub record SettlementReport : Type 0 where
  pub id : List ℕ
  pub batch : ℕ
  pub done : ℕ
  pub refusal : Option Refusal

-- whether the window goes back, the hosts whose own windows do, the events that are refused, what comes of clients and of settlements
pub record TurnReport : Type 0 where
  pub window_back : Bool
  pub hosts_back : List ℕ
  pub refused : List RefusedEvent
  pub clients : List ClientReport
  pub settlements : List SettlementReport

-- the report of each turn
abbrev pub Report : Type 0
Report = List TurnReport
