use Rattle.std.proofs.Common.{◌≡◌, [], codes, drop, map, option_map}
use Rattle.toml.specs.View.{items_view}
use Rattle.rb_script_toml.specs.Fields.{elements}
use Rattle.rb_import_setup.specs.Senders.{sender_of, sender_view}
use Rattle.rb_import_setup.proofs.sender.read_senders.Given as goal

-- what is left is read beside what was read
abbrev pub invariant-loop-value : goal.invariant-loop-value
invariant-loop-value l =
    elements sender_of (codes "chain") (map (option_map sender_view) l.senders.items) (items_view (drop l.value-index l.items))
    ≡ elements sender_of (codes "chain") [] (items_view l.items)
