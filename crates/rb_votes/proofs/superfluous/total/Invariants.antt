use Rattle.std.proofs.Common.{◌≡◌, ◌*◌, ◌≤◌, take}
use Rattle.std.specs.List.{sum_by}
use Rattle.rb_votes.specs.Power.{power_of}
use Rattle.rb_votes.proofs.superfluous.total.Given as goal

abbrev pub invariant-loop-i : goal.invariant-loop-i
invariant-loop-i l = record {
  so_far : l.total ≡ sum_by (power_of l.power) (take l.i l.voters.list);
  small : l.total ≤ l.i * 18446744073709551616;
}
