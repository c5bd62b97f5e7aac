use Rattle.std.proofs.Common.{◌≡◌, replicate}
use Rattle.rb_core_model.specs.Machine.{no_scans}
use Rattle.rb_core.proofs.copies.new_scans.Given as goal

abbrev pub invariant-loop : goal.invariant-loop
invariant-loop g l = l.scans.items ≡ replicate l.counter no_scans
