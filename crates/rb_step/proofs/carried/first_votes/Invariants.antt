use Rattle.std.specs.Option.{option_copied}
use Rattle.rb_step.proofs.Walked.{IsWalked}
use Rattle.rb_step.proofs.carried.first_votes.Given as goal

abbrev pub invariant-loop-place : goal.invariant-loop-place
invariant-loop-place g l = IsWalked (option_copied l.next) l.own l.header l.fn.needed l.place l.count l.left l.lacking
