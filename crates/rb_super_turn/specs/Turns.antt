-- What a script's turns report (own choice, over what clients are to be sent as things stand).
use Rattle.std.specs.Prelude.{◌≡◌, ℕ, ◌+◌, Bool, List, [], ◌∷◌, ◌++◌, length, map, fold, Option, Some, None, is_some, nat_lt, slice_get, if◌then◌else◌}
use Rattle.std.specs.List.{AllZip, enumerate_from, range_with_len}
use Rattle.std.specs.Option.{option_map, option_map_or, option_and_then, option_to_list}
use Rattle.rb_base.specs.Window.{Span}
use Rattle.rb_plan_types.specs.Order.{cost_of}
use Rattle.rb_step.specs.LightClient.{Update}
use Rattle.rb_step.specs.Sent.{sent_at}
use Rattle.rb_step.specs.View.{client_of}
use Rattle.rb_plan_client.specs.Draft.{Plan as SentPlan, Planned as Answer, Sending as SentAs, nothing as sent_nothing, too_big as sent_too_big, batched as sent_batched, Draft, planned_updates, IsIdle, IsPlanned}
use Rattle.rb_plan_client.specs.Next.{IsNext}
use Rattle.rb_core_model.specs.Event.{Event, Window, HostWindow, Asked, Settled}
use Rattle.rb_core_model.specs.Standing.{OpenBatch, ClientState, Standing, opening_standing, task_in, with_batch, goes_back, judged, standing_after, batch_open}
use Rattle.rb_script_types.specs.declared.goal.Goal.{Goal}
use Rattle.rb_script_types.specs.Goal.{height_in}
use Rattle.rb_plan_client.specs.Task.{Task, Message, view_of, too_big_messages}
use Rattle.rb_super_turn.specs.Report.{RefusedEvent, PricedUpdate, SendingReport, nothing, too_big, batched, PlanReport, PlannedReport, Outcome, held, idle, planned, ClientReport, SettlementReport, TurnReport, Report}
use Rattle.rb_script_types.specs.declared.refusal.Refusal.{Refusal}
use Rattle.rb_script_types.specs.declared.script.Asked.{Asked as Question}
use Rattle.rb_script_types.specs.declared.script.HostWindow.{HostWindow as WindowOf}
use Rattle.rb_script_types.specs.declared.script.Settlement.{Settlement}
use Rattle.rb_super_turn.specs.Script.{Turn, Script}

-- ---- the window, what is asked, and what was seen

abbrev pub after_window : Standing → Span → Standing
after_window s window = standing_after s (Window window)

-- a window of a host, and those of all hosts that have one of their own
abbrev pub window_event : WindowOf → Event
window_event w = HostWindow w.host w.window

abbrev pub after_host_window : Standing → WindowOf → Standing
after_host_window s w = standing_after s (window_event w)

-- the hosts whose windows go back, in their order
abbrev pub hosts_back : Standing → List WindowOf → List ℕ
hosts_back s [] = []
hosts_back s (w ∷ ws) = (if is_some (judged s (window_event w)) then w.host ∷ [] else []) ++ hosts_back (after_host_window s w) ws

abbrev pub after_question : Standing → Question → Standing
after_question s q = standing_after s (Asked q.client q.goal)

-- what is reported of an event, by its number and why it was refused, if it was
abbrev pub refused_as : ℕ → Option Refusal → List RefusedEvent
refused_as number refusal = option_to_list (option_map (λ r. record { event = number; refusal = r }) refusal)

-- the same as things stand
abbrev pub refusal_at : ℕ → Standing → Event → List RefusedEvent
refusal_at number s event = refused_as number (judged s event)

-- the refused ones of a turn's events, from a number on, each with its number
abbrev pub refusals : ℕ → Standing → List Event → List RefusedEvent
refusals number s [] = []
refusals number s (event ∷ events) = refusal_at number s event ++ refusals (number + 1) (standing_after s event) events

-- how things stand when a turn's events are taken in: its windows were entered, those of hosts first, and its questions were asked
abbrev pub before_events : Standing → Turn → Standing
before_events s turn = fold after_question (after_window (fold after_host_window s turn.windows) turn.window) turn.goals

-- how things stand when a turn's clients are planned
abbrev pub before_plans : Standing → Turn → Standing
before_plans s turn = fold standing_after (before_events s turn) turn.events

-- the refused ones of a turn's events, each with its number from 0
abbrev pub refusals_in : Standing → Turn → List RefusedEvent
refusals_in s turn = refusals 0 (before_events s turn) turn.events

-- ---- a client

-- what is reported of an answer: each update with its fee, the total, and the batch by its number
abbrev pub priced : Task → Update → PricedUpdate
priced t u = record {
  update = u;
  fee = (client_of (view_of t)).fee u.trusted u.height;
  votes = sent_at (view_of t) u.trusted u.height;
}

abbrev pub numbered : ℕ → SentAs → SendingReport
numbered number sent_nothing = nothing
numbered number (sent_too_big index) = too_big index
numbered number (sent_batched b) = batched (record { number = number; proof = b.proof; transactions = b.transactions })

abbrev pub reported_plan : Task → ℕ → SentPlan → PlanReport
reported_plan t number p = record {
  updates = map (priced t) p.updates;
  total = cost_of (client_of (view_of t)) p.updates;
  messages = p.messages;
  sending = numbered number p.sending;
}

-- what was asked for, where it is higher than the goal: it is out of reach then
abbrev pub beyond_goal : Task → Goal → Option Goal
beyond_goal t goal = option_and_then (λ asked. if nat_lt (height_in goal) (height_in asked) then Some asked else None) t.asked

abbrev pub reported : Task → ℕ → Option ℕ → Answer → PlannedReport
reported t number next a = record { goal = a.goal; beyond = beyond_goal t a.goal; labels = a.labels; plan = option_map (reported_plan t number) a.plan; next = next }

-- what is reported of a draft whose batch has this number
abbrev pub outcome_numbered : ℕ → Draft → Outcome
outcome_numbered number d = option_map_or (λ a. planned (reported d.job.task number d.next a)) d.answer (idle d.next)

-- what is reported of a client's draft; batches are numbered from 1
abbrev pub outcome_of : ClientState → Draft → Outcome
outcome_of c d = outcome_numbered (c.batches + 1) d

-- a plan is right for a task, its batch has this number if it opens one, and the client has a goal next when it is said
pub record IsPlanFor (t : Task) (number : ℕ) (p : PlannedReport) : Type 0 where
  pub answer : Answer
  pub right : IsPlanned t answer
  pub next : IsNext t (planned_updates (Some answer)) p.next
  pub is : p ≡ reported t number p.next answer

-- a client with an open batch is held, one without a goal is idle, and for the others there is a plan; batches are numbered from 1
abbrev pub IsOutcome : Task → ClientState → Outcome → Type 0
IsOutcome t c (held number) = option_map (λ (b : OpenBatch). b.number) c.batch ≡ Some number
IsOutcome t c (idle next) = (c.batch ≡ None) × IsIdle t × IsNext t [] next
IsOutcome t c (planned p) = (c.batch ≡ None) × IsPlanFor t (c.batches + 1) p

-- the messages that are left out and told: none of a client that is held
abbrev pub told_too_big : Task → ClientState → List Message
told_too_big t c = if is_some c.batch then [] else too_big_messages t

-- a client, with its place, as things stand
pub record IsClientReport (s : Standing) (c : ℕ × ClientState) (r : ClientReport) : Type 0 where
  pub id : r.id ≡ c.1.config.id
  pub window : Span
  pub is_window : s.window ≡ Some window
  pub outcome : IsOutcome (task_in s window c.0 c.1) c.1 r.outcome
  pub too_big : r.too_big ≡ told_too_big (task_in s window c.0 c.1) c.1

-- ---- what the plans leave

abbrev pub update_of : PricedUpdate → Update
update_of u = u.update

-- the batch that a plan opens
abbrev pub batch_sent : PlanReport → SendingReport → Option OpenBatch
batch_sent p nothing = None
batch_sent p (too_big index) = None
batch_sent p (batched b) = Some (record {
  number = b.number;
  proof = b.proof;
  updates = map update_of p.updates;
  messages = p.messages;
  transactions = b.transactions;
})

abbrev pub opened : PlannedReport → Option OpenBatch
opened a = option_and_then (λ (p : PlanReport). batch_sent p p.sending) a.plan

-- the goal that a client was asked for is done with, unless the client is held
abbrev pub after_outcome : Outcome → ClientState → ClientState
after_outcome (held number) c = c
after_outcome (idle next) c = with_batch c None
after_outcome (planned p) c = with_batch c (opened p)

abbrev pub after_reports : List ClientState → List ClientReport → List ClientState
after_reports [] rs = []
after_reports (c ∷ cs) [] = c ∷ cs
after_reports (c ∷ cs) (r ∷ rs) = after_outcome r.outcome c ∷ after_reports cs rs

abbrev pub after_plans : Standing → Turn → TurnReport → Standing
after_plans s turn r = record (before_plans s turn) { clients = after_reports (before_plans s turn).clients r.clients }

-- ---- settlements

abbrev pub settlement_event : Settlement → Event
settlement_event x = Settled x.client x.batch x.done

abbrev pub after_settlement : Standing → Settlement → Standing
after_settlement s x = standing_after s (settlement_event x)

abbrev pub id_of : Standing → ℕ → List ℕ
id_of s client = option_map_or (λ (c : ClientState). c.config.id) (slice_get s.clients client) []

abbrev pub settlement_report : Standing → Settlement → SettlementReport
settlement_report s x = record { id = id_of s x.client; batch = x.batch; done = x.done; refusal = judged s (settlement_event x) }

abbrev pub settlement_reports : Standing → List Settlement → List SettlementReport
settlement_reports s [] = []
settlement_reports s (x ∷ xs) = settlement_report s x ∷ settlement_reports (after_settlement s x) xs

-- a client's open batch, taken whole
abbrev pub taking : Standing → ℕ → Option Settlement
taking s client = option_map (λ (b : OpenBatch). record { client = client; batch = b.number; done = length b.transactions }) (batch_open s client)

abbrev pub after_taking : Standing → ℕ → Standing
after_taking s client = option_map_or (after_settlement s) (taking s client) s

abbrev pub taking_reports : Standing → List ℕ → List SettlementReport
taking_reports s [] = []
taking_reports s (client ∷ clients) = option_to_list (option_map (settlement_report s) (taking s client)) ++ taking_reports (after_taking s client) clients

-- the clients whose open batches are taken after the settlements, in script order: all or none
abbrev pub takers : Standing → Bool → List ℕ
takers s taken = if taken then range_with_len 0 (length s.clients) else []

-- how things stand after settlements, and after what is taken then, where all is
abbrev pub after_all : List Settlement → Bool → Standing → Standing
after_all xs taken s = fold after_taking (fold after_settlement s xs) (takers s taken)

abbrev pub reports_of_all : List Settlement → Bool → Standing → List SettlementReport
reports_of_all xs taken s = settlement_reports s xs ++ taking_reports (fold after_settlement s xs) (takers s taken)

-- ---- turns

pub record IsTurnReport (s : Standing) (turn : Turn) (r : TurnReport) : Type 0 where
  pub window : r.window_back ≡ goes_back s.window turn.window
  pub hosts : r.hosts_back ≡ hosts_back s turn.windows
  pub refused : r.refused ≡ refusals_in s turn
  pub clients : AllZip (IsClientReport (before_plans s turn)) (enumerate_from 0 (before_plans s turn).clients) r.clients
  pub settlements : r.settlements ≡ reports_of_all turn.settlements turn.taken (after_plans s turn r)

abbrev pub after_turn : Standing → Turn → TurnReport → Standing
after_turn s turn r = after_all turn.settlements turn.taken (after_plans s turn r)

-- one report for each turn, in the standing that the turns before it leave
abbrev pub AreTurnReports : Standing → List Turn → Report → Type 0
AreTurnReports s [] [] = Unit {0}
AreTurnReports s [] (r ∷ rs) = ⊥
AreTurnReports s (t ∷ ts) [] = ⊥
AreTurnReports s (t ∷ ts) (r ∷ rs) = IsTurnReport s t r × AreTurnReports (after_turn s t r) ts rs

abbrev pub IsReportOf : Script → Report → Type 0
IsReportOf script report = AreTurnReports (opening_standing script.config) script.turns report
