use Rattle.std.proofs.Common.{◌≡◌, drop}
use Rattle.serde_json.specs.View.{items_view}
use Rattle.rb_packets.specs.Events.{way_view}
use Rattle.rb_packets.specs.Transactions.{events_bytes}
use Rattle.rb_packets.proofs.transactions.events_bytes.Given as goal

-- the first event that tells them is among those that are left
abbrev pub invariant-loop-event : goal.invariant-loop-event
invariant-loop-event l =
    events_bytes l.asked (way_view l.way) (items_view (drop l.event-index l.events))
    ≡ events_bytes l.asked (way_view l.way) (items_view l.events)
