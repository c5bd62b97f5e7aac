use Rattle.std.proofs.Common.{◌≡◌, ◌++◌, codes, take, flat_map}
use Rattle.rb_journal.proofs.stored.input_of.Given as goal

abbrev pub invariant-loop-document : goal.invariant-loop-document
invariant-loop-document l = l.input.items ≡ flat_map (λ d. d.items ++ codes "---\n") (take l.document-index l.documents)
