use Rattle.rb_import_check.proofs.Parting.{AreParted}
use Rattle.rb_import_check.proofs.parts.parted.Given as goal

-- the headers so far are parted
abbrev pub invariant-loop-commit : goal.invariant-loop-commit
invariant-loop-commit l = AreParted l.signatures l.sets.sets.items l.commits l.commit-index l.parts.commits.items l.parts.bare.items l.parts.unsigned.items
