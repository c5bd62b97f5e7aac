-- The batches that a script's last turn opens.
use Rattle.std.specs.Prelude.{◌-◌, ℕ, List, [], ◌∷◌, Option, length, slice_get}
use Rattle.std.specs.List.{enumerate_from, flat_map}
use Rattle.std.specs.Option.{option_map_or}
use Rattle.rb_batch.specs.declared.transaction.Transaction.{Transaction}
use Rattle.rb_book.specs.Book.{Book, record_at}
use Rattle.rb_book.specs.Header.{Record}
use Rattle.rb_core_model.specs.Standing.{Standing, book_at}
use Rattle.rb_plan_client.specs.Task.{Message}
use Rattle.rb_script_types.specs.declared.config.ClientConfig.{ClientConfig}
use Rattle.rb_super_turn.specs.declared.report.ClientReport.{ClientReport}
use Rattle.rb_super_turn.specs.declared.report.Outcome.{Outcome}
use Rattle.rb_super_turn.specs.declared.report.Outcome.TheVariants.{Held, Idle, Planned}
use Rattle.rb_super_turn.specs.declared.report.PlanReport.{PlanReport}
use Rattle.rb_super_turn.specs.declared.report.SendingReport.{SendingReport}
use Rattle.rb_super_turn.specs.declared.report.SendingReport.TheVariants.{Nothing, TooBig, Batch as Opened}
use Rattle.rb_super_turn.specs.declared.report.TurnReport.{TurnReport}
use Rattle.rb_messages.specs.declared.batch.PlannedBatch.{PlannedBatch}

-- a batch, as it is apart from memory: its messages are numbered from 0, the updates first
pub record Batch : Type 0 where
  pub client : List ℕ
  pub host : ℕ
  pub chain : ℕ
  pub updates : ℕ
  pub messages : List Message
  pub proof : ℕ
  pub proof_record : Option Record
  pub transactions : List Transaction

abbrev pub batch_view : PlannedBatch → Batch
batch_view b = record {
  client = b.client;
  host = b.host;
  chain = b.chain;
  updates = b.updates;
  messages = b.messages.items;
  proof = b.proof;
  proof_record = b.proof_record;
  transactions = b.transactions.items;
}

-- the batch of a plan, if one is opened: proofs are judged by the record of its proof height
abbrev pub opened : {A : Type 0} → Book → ClientConfig → PlanReport A → SendingReport A → List Batch
opened book c p Nothing = []
opened book c p (TooBig message) = []
opened book c p (Opened b) = record {
  client = c.id;
  host = c.host;
  chain = c.tracks;
  updates = length p.updates.items;
  messages = p.messages.items;
  proof = b.proof;
  proof_record = record_at book b.proof;
  transactions = b.transactions.items;
} ∷ []

abbrev pub plan_batches : {A : Type 0} → Book → ClientConfig → PlanReport A → List Batch
plan_batches book c p = opened book c p p.sending

-- that of a client, by what came of it
abbrev pub client_batches : {A : Type 0} → Book → ClientConfig → Outcome A → List Batch
client_batches book c (Held batch) = []
client_batches book c (Idle next) = []
client_batches book c (Planned p) = option_map_or (plan_batches book c) p.plan []

-- that of the client at a place, whose book is that of the chain that it tracks
abbrev pub batches_at : {A : Type 0} → Standing → List ClientConfig → ℕ × ClientReport A → List Batch
batches_at s clients (place, r) = option_map_or (λ (c : ClientConfig). client_batches (book_at s.books c.tracks) c r.outcome) (slice_get clients place) []

-- those of the last turn: the clients in script order
abbrev pub last_batches : {A : Type 0} → Standing → List ClientConfig → List (TurnReport A) → List Batch
last_batches s clients turns = option_map_or (λ t. flat_map (batches_at s clients) (enumerate_from 0 t.clients.items)) (slice_get turns (length turns - 1)) []
