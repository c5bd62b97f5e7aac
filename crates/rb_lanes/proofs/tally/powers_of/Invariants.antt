use Rattle.std.proofs.Common.{◌≡◌, ℕ, length, sum, sum_by, take}
use Rattle.rb_lanes.specs.Lanes.{IsSpread}
use Rattle.rb_lanes.proofs.tally.powers_of.Given as goal

abbrev pub invariant-loop-column : goal.invariant-loop-column
invariant-loop-column g l = record {
  long : length l.powers ≡ l.columns;
  whole : sum l.powers ≡ sum_by (λ (m : ℕ × ℕ). m.1) (take l.column-index l.members);
  spread : IsSpread l.powers l.first (take l.column-index l.members);
}
