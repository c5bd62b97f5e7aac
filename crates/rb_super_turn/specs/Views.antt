-- Reports as they lie in memory, without that.
use Rattle.std.specs.Prelude.{map}
use Rattle.std.specs.Option.{option_map}
use Rattle.rb_step.specs.Sent.{sent_view}
use Rattle.rb_super_turn.specs.Report.{RefusedEvent, PricedUpdate, BatchReport, SendingReport, nothing, too_big, batched, PlanReport, PlannedReport, Outcome, held, idle, planned, ClientReport, SettlementReport, TurnReport, Report}
use Rattle.rb_super_turn.specs.declared.report.BatchReport.{BatchReport as CodeBatch}
use Rattle.rb_super_turn.specs.declared.report.ClientReport.{ClientReport as CodeClientReport}
use Rattle.rb_super_turn.specs.declared.report.Outcome.{Outcome as CodeOutcome}
use Rattle.rb_super_turn.specs.declared.report.Outcome.TheVariants as outcome
use Rattle.rb_super_turn.specs.declared.report.PlanReport.{PlanReport as CodePlan}
use Rattle.rb_super_turn.specs.declared.report.PlannedReport.{PlannedReport as CodePlanned}
use Rattle.rb_super_turn.specs.declared.report.PricedUpdate.{PricedUpdate as CodePricedUpdate}
use Rattle.rb_super_turn.specs.declared.report.RefusedEvent.{RefusedEvent as CodeRefusedEvent}
use Rattle.rb_super_turn.specs.declared.report.Report.{Report as CodeReport}
use Rattle.rb_super_turn.specs.declared.report.SendingReport.{SendingReport as CodeSending}
use Rattle.rb_super_turn.specs.declared.report.SendingReport.TheVariants as sending
use Rattle.rb_super_turn.specs.declared.report.SettlementReport.{SettlementReport as CodeSettlementReport}
use Rattle.rb_super_turn.specs.declared.report.TurnReport.{TurnReport as CodeTurnReport}

abbrev pub refused_view : CodeRefusedEvent → RefusedEvent
refused_view r = record { event = r.event; refusal = r.refusal }

abbrev pub priced_view : {A : Type 0} → CodePricedUpdate A → PricedUpdate
priced_view u = record { update = u.update; fee = u.fee; votes = option_map sent_view u.votes }

abbrev pub batch_view : {A : Type 0} → CodeBatch A → BatchReport
batch_view b = record { number = b.number; proof = b.proof; transactions = b.transactions.items }

abbrev pub sending_view : {A : Type 0} → CodeSending A → SendingReport
sending_view sending.Nothing = nothing
sending_view (sending.TooBig index) = too_big index
sending_view (sending.Batch b) = batched (batch_view b)

abbrev pub plan_view : {A : Type 0} → CodePlan A → PlanReport
plan_view p = record { updates = map priced_view p.updates.items; total = p.total; messages = p.messages.items; sending = sending_view p.sending }

abbrev pub planned_view : {A : Type 0} → CodePlanned A → PlannedReport
planned_view p = record { goal = p.goal; beyond = p.beyond; labels = p.labelling; plan = option_map plan_view p.plan; next = p.next }

abbrev pub outcome_view : {A : Type 0} → CodeOutcome A → Outcome
outcome_view (outcome.Held number) = held number
outcome_view (outcome.Idle next) = idle next
outcome_view (outcome.Planned p) = planned (planned_view p)

abbrev pub client_report_view : {A : Type 0} → CodeClientReport A → ClientReport
client_report_view c = record { id = c.id; outcome = outcome_view c.outcome; too_big = c.too_big.items }

abbrev pub settlement_view : CodeSettlementReport → SettlementReport
settlement_view x = record { id = x.id; batch = x.batch; done = x.done; refusal = x.refusal }

abbrev pub turn_report_view : {A : Type 0} → CodeTurnReport A → TurnReport
turn_report_view t = record {
  window_back = t.window_back;
  hosts_back = t.hosts_back.items;
  refused = map refused_view t.refused.items;
  clients = map client_report_view t.clients.items;
  settlements = map settlement_view t.settlements.items;
}

abbrev pub report_view : {A : Type 0} → CodeReport A → Report
report_view r = map turn_report_view r.turns.items
