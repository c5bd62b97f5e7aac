use Rattle.std.proofs.Common.{◌≡◌, ◌++◌, drop, map}
use Rattle.rb_import_answers.specs.Headers.{signature_of}
use Rattle.rb_import_answers.proofs.commit.signatures_of.Given as goal

-- what is made, and what is left to make
abbrev pub invariant-loop-vote : goal.invariant-loop-vote
invariant-loop-vote l = l.signatures.items ++ map signature_of (drop l.vote-index l.votes) ≡ map signature_of l.votes
