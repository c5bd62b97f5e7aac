use Rattle.std.proofs.Common.{◌≡◌, [], map, drop}
use Rattle.serde_json.specs.View.{items_view}
use Rattle.rb_import_answers.specs.Packets.{transactions, packet_view}
use Rattle.rb_import_answers.proofs.transactions.read_all.Given as goal

-- what is left is read after what was read
abbrev pub invariant-loop-index : goal.invariant-loop-index
invariant-loop-index l =
    transactions l.index (map packet_view l.all.items) (items_view (drop l.index l.items))
    ≡ transactions 0 [] (items_view l.items)
