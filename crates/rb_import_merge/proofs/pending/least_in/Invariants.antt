use Rattle.std.proofs.Common.{◌≡◌, drop}
use Rattle.rb_import_merge.specs.Pending.{least_in}
use Rattle.rb_import_merge.proofs.pending.least_in.Given as goal

-- what is left is met after what was met
abbrev pub invariant-loop-sequence : goal.invariant-loop-sequence
invariant-loop-sequence l = least_in l.first l.least (drop l.sequence-index l.sequences) ≡ least_in l.first l.fn.met l.sequences
