use Rattle.std.proofs.Common.{◌≡◌, ◌++◌, false, drop}
use Rattle.rb_journal.specs.Verbatim.{unbarred}
use Rattle.rb_journal.proofs.verbatim.unbarred.Given as goal

-- what is there, and what is left to be gone over
abbrev pub invariant-loop-byte : goal.invariant-loop-byte
invariant-loop-byte l = unbarred false l.bytes ≡ l.rest.items ++ unbarred l.behind_feed (drop l.byte-index l.bytes)
