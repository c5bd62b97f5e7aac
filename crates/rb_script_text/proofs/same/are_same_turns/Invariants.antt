use Rattle.std.proofs.Common.{◌≡◌, map, take}
use Rattle.rb_script_types.specs.Script.{turn_view}
use Rattle.rb_script_text.proofs.same.are_same_turns.Given as goal

abbrev pub invariant-loop-place : goal.invariant-loop-place
invariant-loop-place l = map turn_view (take l.place l.turns) ≡ map turn_view (take l.place l.others)
