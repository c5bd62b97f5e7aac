use Rattle.std.proofs.Common.{◌≡◌, [], codes, drop, map}
use Rattle.toml.specs.View.{items_view}
use Rattle.rb_script_types.specs.Script.{turn_view}
use Rattle.rb_script_toml.specs.Fields.{in_sequence}
use Rattle.rb_script_config.specs.Setups.{setup_view}
use Rattle.rb_script_read.specs.Turns.{turn, reading_view}
use Rattle.rb_script_read.proofs.script.read_turns_by.Given as goal

-- what is left is read after what was read
abbrev pub invariant-loop-value : goal.invariant-loop-value
invariant-loop-value g l =
    let read = turn (setup_view l.setup) in
    in_sequence read (codes "turn") (reading_view l.reading) (map turn_view l.turns.items) (items_view (drop l.value-index l.items))
    ≡ in_sequence read (codes "turn") (reading_view l.fn.reading) [] (items_view l.items)
