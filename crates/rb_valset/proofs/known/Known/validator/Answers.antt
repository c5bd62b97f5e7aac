use Rattle.std.proofs.Common.{ap, arith}
use Rattle.rb_valset.specs.Validator.{Member}
use Rattle.rb_valset.proofs.known.Known.validator.Goals as goal

pub returns-then-is_of : goal.returns-then-is_of
returns-then-is_of g c =
    let same = c.is_of.ensures.same.0 c.if-is_of.true in
    let power = ap (λ (m : Member). m.power) same in
    ((omega (arith, power, c.is_of.ensures.range.0), omega (arith, power, c.is_of.ensures.range.1)), same)
