use Rattle.std.proofs.Common.{ℕ, ◌≤◌, take}
use Rattle.rb_graph.specs.Frame.{made}
use Rattle.rb_graph.proofs.finish.first_twice.Given as goal

abbrev pub invariant-loop-place : goal.invariant-loop-place
invariant-loop-place g l = (m : ℕ) → made m (take l.place l.rows) ≤ 1
