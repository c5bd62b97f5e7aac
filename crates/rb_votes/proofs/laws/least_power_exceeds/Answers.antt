use Rattle.std.proofs.Common.{◌*◌, arith}
use Rattle.std.proofs.Math.Nat.{div-lt_iff_lt-mul}
use Rattle.rb_votes.proofs.laws.least_power_exceeds.Goals as goal

pub returns : goal.returns
returns c = λ power total numerator denominator some.
    let same = div-lt_iff_lt-mul {k = denominator} {x = total * numerator} {y = power} some in
    (λ more. omega (arith, same.1 more), λ least. same.0 (omega (arith, least)))
