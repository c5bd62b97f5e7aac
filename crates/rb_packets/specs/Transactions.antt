-- The bytes that CometBFT's `/tx_search` tells of a packet.
use Rattle.std.specs.Prelude.{ℕ, List, Bool, false, ◌==◌, if◌then◌else◌, Option, Some, None, option_and_then, codes}
use Rattle.serde_json.specs.Data.{Data, Items, item, no_items}
use Rattle.serde_json.specs.Find.{as_array, as_number, as_u64, get}
use Rattle.serde_json.specs.View.{view}
use Rattle.rb_packets.specs.declared.event.PacketBytes.{PacketBytes}
use Rattle.rb_packets.specs.declared.transactions.Transactions.{Transactions}
use Rattle.rb_packets.specs.Events.{Way, event_bytes}
use Rattle.rb_packets.specs.Steps.{◌>>=◌, first_of}

abbrev pub transactions_view : Transactions → Data
transactions_view t = view t.answer

-- the bytes that the first event tells
abbrev pub events_bytes : PacketBytes → Way → Items → Option (List ℕ)
events_bytes kind w no_items = None
events_bytes kind w (item d ds) = first_of (event_bytes kind w d) (events_bytes kind w ds)

abbrev pub is_zero : Option ℕ → Bool
is_zero (Some code) = code == 0
is_zero None = false

unfoldable pub succeeded : Data → Bool
succeeded done = is_zero (get (codes "code") done >>= λ d. option_and_then as_u64 (as_number d))

abbrev pub if_succeeded : PacketBytes → Way → Data → Option (List ℕ)
if_succeeded kind w done =
    if succeeded done then (get (codes "events") done >>= λ list. as_array list >>= λ ds. events_bytes kind w ds) else None

-- a transaction that failed tells nothing
unfoldable pub transaction_bytes : PacketBytes → Way → Data → Option (List ℕ)
transaction_bytes kind w d = get (codes "tx_result") d >>= λ done. if_succeeded kind w done

abbrev pub listed_bytes : PacketBytes → Way → Items → Option (List ℕ)
listed_bytes kind w no_items = None
listed_bytes kind w (item d ds) = first_of (transaction_bytes kind w d) (listed_bytes kind w ds)

abbrev pub result_in : Option Data → Data → Data
result_in (Some result) d = result
result_in None d = d

-- CometBFT's answers stand in a member `result` (JSON-RPC 2.0), or bare
unfoldable pub bytes_in : PacketBytes → Way → Data → Option (List ℕ)
bytes_in kind w d =
    get (codes "txs") (result_in (get (codes "result") d) d) >>= λ list. as_array list >>= λ ds. listed_bytes kind w ds
