-- The shell file that sends messages, or transactions, behind what all such files begin with (POSIX.1, Shell Command Language).
use Rattle.std.specs.Prelude.{ℕ, ◌+◌, ◌-◌, ◌==◌, List, [], ◌∷◌, ◌++◌, codes, drop, length, Option, Some, None, if◌then◌else◌, slice_index_or, string_bytes, take}
use Rattle.std.specs.Fmt.{decimal}
use Rattle.std.specs.List.{enumerate_from, flat_map}
use Rattle.std.specs.Option.{option_map, option_map_or}
use Rattle.rb_base.specs.Window.{Span}
use Rattle.rb_core_model.specs.Machine.{State, client_view}
use Rattle.rb_import_setup.specs.declared.sender.Sender.{Sender}
use Rattle.rb_messages.specs.Names.{file_name}
use Rattle.rb_messages.specs.declared.update.PlannedUpdate.{PlannedUpdate}
use Rattle.rb_script_text.specs.Moments.{moment_text}
use Rattle.rb_plan_client.specs.Draft.{Job}
use Rattle.rb_want_requests.specs.Lines.{own_id}
use Rattle.rb_messages.specs.Transactions.{sender_at}
use Rattle.rb_messages.specs.declared.batch.PlannedBatch.{PlannedBatch}
use Rattle.rb_messages.specs.declared.transactions.TransactionFile.{TransactionFile}

-- the window of the first client; none before the first window
abbrev pub window_in : State → Option Span
window_in s = option_map (λ (job : Job). job.task.window) (client_view s 0)

unfoldable pub until_text : ℕ → List ℕ
until_text until = codes " until " ++ moment_text until ++ codes "\n"

unfoldable pub valid_text : Span → List ℕ
valid_text w = codes "# valid from " ++ moment_text w.from ++ until_text w.until

abbrev pub window_text : Option Span → List ℕ
window_text None = []
window_text (Some w) = valid_text w

-- a host by its number, from 1, and its identifier
unfoldable pub host_text : ℕ → List ℕ → List ℕ
host_text number host =
    codes "# host " ++ (decimal number ++ (codes ", " ++ (host ++ codes ": ")))

-- ---- updates

unfoldable pub transaction_text : ℕ → ℕ → List ℕ → List ℕ
transaction_text number transaction host =
    codes "transaction " ++ (decimal transaction ++ (codes "\n\"${PROGRAM_" ++ (decimal number ++ (codes ":?the program of " ++ (host ++ codes "}\"")))))

unfoldable pub arguments_text : ℕ → List ℕ → List ℕ → List ℕ
arguments_text number client file =
    codes " tx ibc client update '" ++ (client ++ (codes "' " ++ (file ++ (codes " ${OPTIONS_" ++ (decimal number ++ codes "-}\nsleep \"${WAIT:-10}\"\n")))))

-- the call of the host's program on the file of an update, whose client has the host's name for it
unfoldable pub call_text : List ℕ → PlannedUpdate → List ℕ → List ℕ
call_text host u file =
    host_text (u.host + 1) host ++ transaction_text (u.host + 1) u.transaction host ++ arguments_text (u.host + 1) (own_id host u.client) file

-- the update at a place
abbrev pub update_text : List (List ℕ) → ℕ × PlannedUpdate → List ℕ
update_text chains (place, u) = call_text (slice_index_or chains u.host []) u (file_name place u)

-- several, the first of which has so many before it
abbrev pub updates_text : List (List ℕ) → ℕ → List PlannedUpdate → List ℕ
updates_text chains first updates = flat_map (update_text chains) (enumerate_from first updates)

-- ---- transactions

unfoldable pub client_text : List ℕ → List ℕ
client_text client = codes "client " ++ client ++ codes "\n"

unfoldable pub program_text : ℕ → List ℕ → List ℕ
program_text number host =
    codes "program=${PROGRAM_" ++ (decimal number ++ (codes ":?the program of " ++ (host ++ (codes "} chain='" ++ (host ++ codes "'")))))

unfoldable pub options_text : ℕ → List ℕ
options_text number =
    codes " options=${OPTIONS_" ++ (decimal number ++ (codes "-} node=${NODE_" ++ (decimal number ++ codes "-}\n")))

-- the words that `send` goes by
unfoldable pub words_text : ℕ → List ℕ → List ℕ
words_text number host = program_text number host ++ options_text number

unfoldable pub begin_text : ℕ → List ℕ → List ℕ → List ℕ
begin_text place host client = host_text (place + 1) host ++ client_text (own_id host client) ++ words_text (place + 1) host

-- the file of a transaction, if it is of the batch at a place
unfoldable pub send_text : ℕ → TransactionFile → List ℕ
send_text place f = if f.batch == place then codes "send '" ++ string_bytes f.name ++ codes "' && " else []

-- those of the batch at a place, each only where those before it are taken
unfoldable pub transactions_text : List (List ℕ) → List TransactionFile → ℕ → PlannedBatch → List ℕ
transactions_text chains files place b =
    begin_text b.host (slice_index_or chains b.host []) b.client ++ flat_map (send_text place) files ++ codes "true || failed=1\n"

-- a batch, with its updates: its transactions, or where nobody sends to its host, these updates
abbrev pub batch_text : List (List ℕ) → List (Option Sender) → List TransactionFile → ℕ → PlannedBatch → ℕ → List PlannedUpdate → List ℕ
batch_text chains senders files place b first updates =
    option_map_or (λ s. transactions_text chains files place b) (sender_at senders b.host) (updates_text chains first updates)

-- batches, the first of them at a place: each begins with as many of the updates that are left as it has
abbrev pub batches_text : List (List ℕ) → List (Option Sender) → List TransactionFile → List PlannedUpdate → ℕ → List PlannedBatch → List PlannedUpdate → List ℕ
batches_text chains senders files all place [] updates = []
batches_text chains senders files all place (b ∷ rest) updates =
    batch_text chains senders files place b (length all - length updates) (take b.updates updates)
    ++ batches_text chains senders files all (place + 1) rest (drop b.updates updates)

-- all of them, and the end
unfoldable pub body_text : List (List ℕ) → List (Option Sender) → List TransactionFile → List PlannedUpdate → List PlannedBatch → List ℕ
body_text chains senders files updates batches = batches_text chains senders files updates 0 batches updates ++ codes "exit \"$failed\"\n"
