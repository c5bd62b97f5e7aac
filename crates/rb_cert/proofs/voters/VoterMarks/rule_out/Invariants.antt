use Rattle.std.proofs.Common.{◌≡◌, ◌+◌, sum_by, take}
use Rattle.rb_valset.specs.ValidatorSet.{total_of}
use Rattle.rb_cert.proofs.MarkedVoters.{missing}
use Rattle.rb_cert.proofs.voters.VoterMarks.rule_out.Given as goal

abbrev pub invariant-loop-member : goal.invariant-loop-member
invariant-loop-member g l = l.most + sum_by (missing l.self.words) (take l.member-index l.member-items) ≡ total_of l.member-items
