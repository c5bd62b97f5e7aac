use Rattle.std.proofs.Common.{map, length}
use Rattle.rb_journal.proofs.Stores.{Through}
use Rattle.rb_journal.proofs.stored.stored_in.Given as goal

abbrev pub invariant-loop-part : goal.invariant-loop-part
invariant-loop-part l = Through l.fn.digests l.fn.turns (map (λ d. d.items) l.documents.items) l.rest

abbrev pub decreases-loop-part : goal.decreases-loop-part
decreases-loop-part l = length l.rest
