use Rattle.std.proofs.Common.{length}
use Rattle.rb_journal.proofs.Damages.{Checked}
use Rattle.rb_journal.proofs.damage.damage_in.Given as goal

abbrev pub invariant-loop-part : goal.invariant-loop-part
invariant-loop-part l = Checked l.bytes l.rest

abbrev pub decreases-loop-part : goal.decreases-loop-part
decreases-loop-part l = length l.rest
