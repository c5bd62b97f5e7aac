use Rattle.rb_cert.proofs.MarkedVoters.{AreMarkedBefore}
use Rattle.rb_cert.proofs.voters.VoterMarks.of.Given as goal

abbrev pub invariant-loop-place : goal.invariant-loop-place
invariant-loop-place g l = AreMarkedBefore l.marks.words l.own l.header.votes l.place
