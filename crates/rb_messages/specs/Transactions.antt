-- The transactions of batches: what each holds and pays (Cosmos SDK, `Tx`).
use Rattle.std.specs.Prelude.{ℕ, ◌+◌, ◌-◌, ◌==◌, List, [], ◌∷◌, ◌++◌, drop, length, map, option_map, slice_get, slice_index, slice_index_or, string_bytes, take, Option, Some, String, Vec, if◌then◌else◌}
use Rattle.std.specs.Global.{Global}
use Rattle.std.specs.List.{enumerate_from, flat_map}
use Rattle.std.specs.Option.{option_flatten, option_map_or, option_to_list}
use Rattle.rb_batch.specs.declared.transaction.Transaction.{Transaction}
use Rattle.rb_import_setup.specs.Fees.{fee_amount, gas_limit}
use Rattle.rb_import_setup.specs.Senders.{Sender, sender_view}
use Rattle.rb_import_setup.specs.declared.sender.Sender.{Sender as CodeSender}
use Rattle.rb_messages.specs.declared.message.MessageFile.{MessageFile}
use Rattle.rb_want_requests.specs.Lines.{own_id}
use Rattle.rb_messages.specs.Texts.{transaction_text, update_message_text}
use Rattle.rb_messages.specs.declared.batch.PlannedBatch.{PlannedBatch}
use Rattle.rb_messages.specs.declared.transactions.TransactionFile.{TransactionFile}

-- who sends transactions to the host at a place, if somebody does
abbrev pub sender_at : List (Option CodeSender) → ℕ → Option CodeSender
sender_at senders host = option_flatten (slice_get senders host)

-- the transaction of these messages, which take so much gas: its limit is a sender's factor above that, and its fee the limit's price
abbrev pub text_of : Sender → ℕ → List (List ℕ) → List ℕ
text_of s gas messages = transaction_text messages (record {
  denom = s.fee_denom;
  amount = fee_amount (gas_limit gas s.gas_factor) s.gas_price;
  gas_limit = gas_limit gas s.gas_factor;
})

-- ---- the messages of a batch

-- a text without the end of its last line
abbrev pub line_of : List ℕ → List ℕ
line_of text = if slice_index text (length text - 1) == 10 then take (length text - 1) text else text

-- that of an update, for its client as the host names it
abbrev pub update_text : List ℕ → List ℕ → Sender → MessageFile → List ℕ
update_text host client s f = update_message_text (own_id host client) s.update_field (line_of (string_bytes f.text)) s.signer

-- all of them, the updates first; none for a packet message that is left out
abbrev pub messages_of : List ℕ → List ℕ → Sender → List MessageFile → List (Option (String Global)) → List (Option (List ℕ))
messages_of host client s updates packets = map (λ f. Some (update_text host client s f)) updates ++ map (option_map string_bytes) packets

-- those of a transaction
abbrev pub messages_in : Transaction → List (Option (List ℕ)) → List (List ℕ)
messages_in t messages = flat_map option_to_list (take t.count (drop t.first messages))

-- ---- files

-- a transaction: the place of its batch, its number in this, how many messages it has, and its text
pub record File : Type 0 where
  pub batch : ℕ
  pub number : ℕ
  pub messages : ℕ
  pub text : List ℕ

abbrev pub file_view : TransactionFile → File
file_view f = record { batch = f.batch; number = f.number; messages = f.messages; text = string_bytes f.text }

-- that of messages; none where all are left out
abbrev pub file_of : ℕ → Sender → ℕ → ℕ → List (List ℕ) → List File
file_of batch s number gas messages =
    if length messages == 0 then []
    else record { batch = batch; number = number; messages = length messages; text = text_of s gas messages } ∷ []

-- the transaction of a batch with so many before it
abbrev pub file_in : ℕ → Sender → List (Option (List ℕ)) → ℕ × Transaction → List File
file_in batch s messages (before, t) = file_of batch s (before + 1) t.gas (messages_in t messages)

-- those of the batch at a place, with the files of its updates and what stands for its packet messages
abbrev pub batch_files : List (List ℕ) → List (Option CodeSender) → ℕ → PlannedBatch → List MessageFile → List (Option (String Global)) → List File
batch_files chains senders place b updates packets =
    option_map_or (λ (s : CodeSender). flat_map (file_in place (sender_view s) (messages_of (slice_index_or chains b.host []) b.client (sender_view s) updates packets)) (enumerate_from 0 b.transactions.items))
    (sender_at senders b.host) []

-- what stands for the packet messages of the batch at a place
abbrev pub packets_at : List (Vec (Option (String Global)) Global) → ℕ → List (Option (String Global))
packets_at packets place = option_map_or (λ v. v.items) (slice_get packets place) []

-- those of batches, the first of them at a place: each begins with as many of the updates as it has
abbrev pub files_from : List (List ℕ) → List (Option CodeSender) → List (Vec (Option (String Global)) Global) → ℕ → List PlannedBatch → List MessageFile → List File
files_from chains senders packets place [] updates = []
files_from chains senders packets place (b ∷ rest) updates =
    batch_files chains senders place b (take b.updates updates) (packets_at packets place)
    ++ files_from chains senders packets (place + 1) rest (drop b.updates updates)
