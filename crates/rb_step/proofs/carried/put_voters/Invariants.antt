use Rattle.std.specs.Option.{option_copied}
use Rattle.rb_step.proofs.Put.{IsPut}
use Rattle.rb_step.proofs.carried.put_voters.Given as goal

abbrev pub invariant-loop-place : goal.invariant-loop-place
invariant-loop-place g l = IsPut (option_copied l.next) l.own l.header l.place l.voters
