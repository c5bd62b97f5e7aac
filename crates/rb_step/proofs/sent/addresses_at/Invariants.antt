use Rattle.std.proofs.Common.{◌≡◌, map, take}
use Rattle.rb_step.specs.Sent.{address_at}
use Rattle.rb_step.proofs.sent.addresses_at.Given as goal

abbrev pub invariant-loop-voter : goal.invariant-loop-voter
invariant-loop-voter g l = l.addresses.items ≡ map (address_at l.own) (take l.voter-index l.voters)
