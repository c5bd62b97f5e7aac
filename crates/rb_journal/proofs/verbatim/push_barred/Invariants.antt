use Rattle.std.proofs.Common.{◌≡◌, ◌++◌, drop}
use Rattle.rb_journal.specs.Verbatim.{barred}
use Rattle.rb_journal.proofs.verbatim.push_barred.Given as goal

-- what is there, and what is left to be added
abbrev pub invariant-loop-byte : goal.invariant-loop-byte
invariant-loop-byte l = l.part.items ++ barred (drop l.byte-index l.document) ≡ l.fn.part.items ++ barred l.document
