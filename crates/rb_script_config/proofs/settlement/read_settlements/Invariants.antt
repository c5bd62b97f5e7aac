use Rattle.std.proofs.Common.{◌≡◌, [], drop, map}
use Rattle.toml.specs.View.{items_view}
use Rattle.rb_script_toml.specs.Fields.{elements}
use Rattle.rb_script_config.specs.Goals.{settlement}
use Rattle.rb_script_config.proofs.settlement.read_settlements.Given as goal

-- what is left is read beside what was read
abbrev pub invariant-loop-value : goal.invariant-loop-value
invariant-loop-value g l =
    elements (settlement (map g.T.Named.name l.clients)) l.path l.settlements.items (items_view (drop l.value-index l.items))
    ≡ elements (settlement (map g.T.Named.name l.clients)) l.path [] (items_view l.items)
