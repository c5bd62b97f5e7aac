-- The updates that a script's last turn sends.
use Rattle.std.specs.Prelude.{◌-◌, ℕ, List, [], Option, map, length, nat_le, slice_get}
use Rattle.std.specs.List.{count_by, enumerate_from, flat_map}
use Rattle.std.specs.Option.{option_map, option_map_or}
use Rattle.rb_batch.specs.declared.transaction.Transaction.{Transaction}
use Rattle.rb_book.specs.Book.{Book, record_at}
use Rattle.rb_book.specs.Header.{Record}
use Rattle.rb_core_model.specs.Standing.{Standing, book_at}
use Rattle.rb_script_types.specs.declared.config.ClientConfig.{ClientConfig}
use Rattle.rb_step.specs.Sent.{SentVotes, sent_view}
use Rattle.rb_super_turn.specs.declared.report.ClientReport.{ClientReport}
use Rattle.rb_super_turn.specs.declared.report.Outcome.{Outcome}
use Rattle.rb_super_turn.specs.declared.report.Outcome.TheVariants.{Held, Idle, Planned}
use Rattle.rb_super_turn.specs.declared.report.PlanReport.{PlanReport}
use Rattle.rb_super_turn.specs.declared.report.PricedUpdate.{PricedUpdate}
use Rattle.rb_super_turn.specs.declared.report.SendingReport.{SendingReport}
use Rattle.rb_super_turn.specs.declared.report.SendingReport.TheVariants.{Nothing, TooBig, Batch}
use Rattle.rb_super_turn.specs.declared.report.TurnReport.{TurnReport}
use Rattle.rb_messages.specs.declared.update.PlannedUpdate.{PlannedUpdate}

-- an update that is sent, as it is apart from memory
pub record Sent : Type 0 where
  pub client : List ℕ
  pub host : ℕ
  pub chain : ℕ
  pub transaction : ℕ
  pub height : ℕ
  pub trusted : ℕ
  pub own_record : Option Record
  pub trusted_record : Option Record
  pub votes : Option SentVotes

abbrev pub planned_view : PlannedUpdate → Sent
planned_view u = record {
  client = u.client;
  host = u.host;
  chain = u.chain;
  transaction = u.transaction;
  height = u.height;
  trusted = u.trusted;
  own_record = u.own_record;
  trusted_record = u.trusted_record;
  votes = option_map sent_view u.votes;
}

-- an update of a plan, by its place in it: which of the batch's transactions has it, from 1, the records of its heights, and the votes that the
-- planner counts
abbrev pub sent_as : {A : Type 0} → Book → ClientConfig → List Transaction → ℕ × PricedUpdate A → Sent
sent_as book c transactions (place, p) = record {
  client = c.id;
  host = c.host;
  chain = c.tracks;
  transaction = count_by (λ (t : Transaction). nat_le t.first place) transactions;
  height = p.update.height;
  trusted = p.update.trusted;
  own_record = record_at book p.update.height;
  trusted_record = record_at book p.update.trusted;
  votes = option_map sent_view p.votes;
}

-- those of a plan, where a batch of it is opened
abbrev pub batch_updates : {A : Type 0} → Book → ClientConfig → List (PricedUpdate A) → SendingReport A → List Sent
batch_updates book c updates Nothing = []
batch_updates book c updates (TooBig message) = []
batch_updates book c updates (Batch b) = map (sent_as book c b.transactions.items) (enumerate_from 0 updates)

abbrev pub plan_updates : {A : Type 0} → Book → ClientConfig → PlanReport A → List Sent
plan_updates book c p = batch_updates book c p.updates.items p.sending

-- those of a client, by what came of it
abbrev pub client_updates : {A : Type 0} → Book → ClientConfig → Outcome A → List Sent
client_updates book c (Held batch) = []
client_updates book c (Idle next) = []
client_updates book c (Planned p) = option_map_or (plan_updates book c) p.plan []

-- those of the client at a place, whose book is that of the chain that it tracks
abbrev pub updates_at : {A : Type 0} → Standing → List ClientConfig → ℕ × ClientReport A → List Sent
updates_at s clients (place, r) = option_map_or (λ (c : ClientConfig). client_updates (book_at s.books c.tracks) c r.outcome) (slice_get clients place) []

-- those of the last turn: the clients in script order, and each one's in the order of its transactions
abbrev pub last_updates : {A : Type 0} → Standing → List ClientConfig → List (TurnReport A) → List Sent
last_updates s clients turns = option_map_or (λ t. flat_map (updates_at s clients) (enumerate_from 0 t.clients.items)) (slice_get turns (length turns - 1)) []
