use Rattle.std.proofs.Common.{◌≡◌, map, drop}
use Rattle.rb_ics23.specs.Proof.{existence_view, inner_view}
use Rattle.rb_ics23.specs.Root.{hash_above, root}
use Rattle.rb_ics23.proofs.hash.root_of.Given as goal

-- the steps that are left lead to the root
abbrev pub invariant-loop-step : goal.invariant-loop-step
invariant-loop-step l = hash_above l.hash (map inner_view (drop l.step-index l.proof.path.now)) ≡ root (existence_view l.proof)
