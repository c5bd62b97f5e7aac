use Rattle.std.proofs.Common.{◌≡◌, drop, None}
use Rattle.rb_import_merge.specs.Pending.{least_of}
use Rattle.rb_import_merge.proofs.pending.least_of.Given as goal

-- what is left is met after what was met
abbrev pub invariant-loop-saved : goal.invariant-loop-saved
invariant-loop-saved l = least_of l.first l.least (drop l.saved-index l.answers) ≡ least_of l.first None l.answers
