use Rattle.std.proofs.Common.{◌≡◌, [], codes, drop, map}
use Rattle.toml.specs.View.{items_view}
use Rattle.rb_script_toml.specs.Fields.{elements}
use Rattle.rb_import_setup.specs.Turns.{turn, turn_view}
use Rattle.rb_import_setup.proofs.turn.read_turns.Given as goal

-- what is left is read beside what was read
abbrev pub invariant-loop-value : goal.invariant-loop-value
invariant-loop-value l =
    elements (turn l.chains l.clients) (codes "turn") (map turn_view l.turns.items) (items_view (drop l.value-index l.items))
    ≡ elements (turn l.chains l.clients) (codes "turn") [] (items_view l.items)
