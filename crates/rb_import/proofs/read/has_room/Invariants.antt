use Rattle.std.proofs.Common.{◌≡◌, ◌+◌, map, sum_by, take}
use Rattle.rb_script_types.specs.Limits.{max_entries}
use Rattle.rb_script_types.specs.Script.{entry_count, turn_view}
use Rattle.rb_import.proofs.read.has_room.Given as goal

-- the room that is left, and what was taken of it
abbrev pub invariant-loop-turn : goal.invariant-loop-turn
invariant-loop-turn l = l.room + sum_by entry_count (map turn_view (take l.turn-index l.turns)) ≡ max_entries
