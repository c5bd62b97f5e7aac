use Rattle.std.proofs.Common.{◌≡◌, drop}
use Rattle.serde_json.specs.View.{items_view}
use Rattle.rb_packets.specs.Events.{way_view}
use Rattle.rb_packets.specs.Transactions.{listed_bytes}
use Rattle.rb_packets.proofs.transactions.listed_bytes.Given as goal

-- the first transaction that tells them is among those that are left
abbrev pub invariant-loop-transaction : goal.invariant-loop-transaction
invariant-loop-transaction l =
    listed_bytes l.asked (way_view l.way) (items_view (drop l.transaction-index l.transactions))
    ≡ listed_bytes l.asked (way_view l.way) (items_view l.transactions)
