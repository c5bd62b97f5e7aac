use Rattle.std.proofs.Common.{◌≡◌, map, drop}
use Rattle.serde_json.specs.View.{items_view}
use Rattle.rb_import_json.specs.Fields.{object_view}
use Rattle.rb_import_answers.specs.Packets.{events, packet_view}
use Rattle.rb_import_answers.proofs.transactions.add_events.Given as goal

-- what is left is read after what was read
abbrev pub invariant-loop-value : goal.invariant-loop-value
invariant-loop-value l =
    events l.block (object_view l.entry) (map packet_view l.all.items) (items_view (drop l.value-index l.items))
    ≡ events l.block (object_view l.entry) (map packet_view l.fn.all.items) (items_view l.items)
