use Rattle.std.proofs.Common.{◌≡◌, [], drop, map}
use Rattle.toml.specs.View.{items_view}
use Rattle.rb_script_toml.specs.Fields.{elements}
use Rattle.rb_script_config.specs.Goals.{asked}
use Rattle.rb_script_config.proofs.goal.read_goals.Given as goal

-- what is left is read beside what was read
abbrev pub invariant-loop-value : goal.invariant-loop-value
invariant-loop-value g l =
    elements (asked (map g.T.Named.name l.clients)) l.path l.goals.items (items_view (drop l.value-index l.items))
    ≡ elements (asked (map g.T.Named.name l.clients)) l.path [] (items_view l.items)
