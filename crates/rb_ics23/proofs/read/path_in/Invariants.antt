use Rattle.std.proofs.Common.{◌-◌, map}
use Rattle.rb_ics23.specs.Proof.{inner_view}
use Rattle.rb_ics23.specs.Read.{path_in}
use Rattle.rb_ics23.proofs.Steps.{Done}
use Rattle.rb_ics23.proofs.read.path_in.Given as goal

abbrev pub invariant-loop-i : goal.invariant-loop-i
invariant-loop-i l = Done (map inner_view l.path.items) (128 - l._i) l.rest (path_in 128 l.fn.bytes)
