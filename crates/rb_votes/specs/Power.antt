-- The two powers of a voter, by name.
use Rattle.std.specs.Prelude.{ℕ}
use Rattle.rb_votes.specs.declared.voter.Voter.{Voter}
use Rattle.rb_votes.specs.declared.voter.Needed.{Needed}
use Rattle.rb_votes.specs.declared.voter.Power.{Power}
use Rattle.rb_votes.specs.declared.voter.Power.TheVariants.{Own, Trusted}

abbrev pub power_of : Power → Voter → ℕ
power_of Own v = v.own
power_of Trusted v = v.trusted

-- what is needed of it
abbrev pub power_in : Power → Needed → ℕ
power_in Own n = n.own
power_in Trusted n = n.trusted
