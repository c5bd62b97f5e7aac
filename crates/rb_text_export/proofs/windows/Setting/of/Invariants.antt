use Rattle.std.proofs.Common.{◌≡◌, map, take}
use Rattle.rb_script_types.specs.Script.{turn_view}
use Rattle.rb_text_export.specs.Windows.{given_in, given_view}
use Rattle.rb_text_export.proofs.windows.Setting.of.Given as goal

abbrev pub invariant-loop-turn : goal.invariant-loop-turn
invariant-loop-turn l = map given_view l.turns.items ≡ map given_in (map turn_view (take l.turn-index l.script.turns.items))
