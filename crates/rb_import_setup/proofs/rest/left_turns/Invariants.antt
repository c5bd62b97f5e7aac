use Rattle.std.proofs.Common.{◌≡◌, map, take}
use Rattle.rb_import_setup.specs.Turns.{turn_view}
use Rattle.rb_import_setup.specs.Rests.{left_turn}
use Rattle.rb_import_setup.proofs.rest.left_turns.Given as goal

-- these are the turns so far, with the goals and settlements of clients that stay
abbrev pub invariant-loop-turn : goal.invariant-loop-turn
invariant-loop-turn l = map turn_view l.left.items ≡ map (left_turn l.clients) (take l.turn-index l.turns)
