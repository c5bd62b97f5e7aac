use Rattle.std.proofs.Common.{◌≡◌, ◌++◌, drop, map}
use Rattle.std.specs.List.{enumerate_from}
use Rattle.rb_script_types.specs.Script.{turn_view}
use Rattle.rb_import.specs.Scripts.{turn_in}
use Rattle.rb_import.proofs.made.turns_of.Given as goal

-- the turns so far and those that are left are all
abbrev pub invariant-loop-place : goal.invariant-loop-place
invariant-loop-place l =
    map turn_view l.turns.items ++ map (turn_in l.setup l.seen) (enumerate_from l.place (drop l.place l.setup.turns.items))
    ≡ map (turn_in l.setup l.seen) (enumerate_from 0 l.setup.turns.items)
