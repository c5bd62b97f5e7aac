use Rattle.std.proofs.Common.{◌≡◌, take, sum_by}
use Rattle.rb_step.specs.SignedPower.{commit_voters}
use Rattle.rb_step.proofs.Voters.{lent}
use Rattle.rb_step.proofs.power.own_signed_power.Given as goal

abbrev pub invariant-loop-place : goal.invariant-loop-place
invariant-loop-place g l = l.signed ≡ sum_by (lent (commit_voters l.own l.header)) (take l.place l.member-items)
