use Rattle.std.proofs.Common.{◌≡◌, ◌+◌, ◌*◌, ◌≤◌, ◌-◌, drop, length}
use Rattle.rb_script_toml.specs.Marks.{marks_from, marks}
use Rattle.rb_script_toml.proofs.marks.count_marks.Given as goal

-- what is counted, and what is still to come
abbrev pub invariant-loop-at : goal.invariant-loop-at
invariant-loop-at l =
    (l.at ≤ length l.bytes) × (l.count + marks_from l.place (drop l.at l.bytes) ≡ marks l.bytes) × (l.count ≤ 8 * l.at)

abbrev pub decreases-loop-at : goal.decreases-loop-at
decreases-loop-at l = length l.bytes - l.at
