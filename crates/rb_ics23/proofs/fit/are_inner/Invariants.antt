use Rattle.std.proofs.Common.{◌≡◌, ◌+◌, map, drop}
use Rattle.rb_ics23.specs.Proof.{inner_view}
use Rattle.rb_ics23.specs.Fit.{are_inner}
use Rattle.rb_ics23.proofs.fit.are_inner.Given as goal

-- the steps that are left decide
abbrev pub invariant-loop-i : goal.invariant-loop-i
invariant-loop-i l = are_inner l.spec (l.i + 1) (map inner_view (drop l.i l.path)) ≡ are_inner l.spec 1 (map inner_view l.path)
