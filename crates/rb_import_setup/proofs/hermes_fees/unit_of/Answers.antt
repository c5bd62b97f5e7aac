use Rattle.std.proofs.Common.{◌≡◌, ◌<◌, ◌-◌, ◌+◌, ◌/◌, sym, ◌∙◌, arith, below_more}
use Rattle.rb_import_setup.specs.HermesFees.{max_fee}
use Rattle.rb_import_setup.proofs.FeesLemmas.{is_positive, last_fits, next_power, unit_from-here, unit_from-next, unit_from-none}
use Rattle.rb_import_setup.proofs.hermes_fees.unit_of.Goals as goal

pub nonzero_div-amount : goal.nonzero_div-amount
nonzero_div-amount c = is_positive c.loop-exponent._exponent c.loop-exponent.unit c.loop-exponent.invariant.power

pub returns-then-amount-unit-le-MAX_FEE-clause-value : goal.returns-then-amount-unit-le-MAX_FEE-clause-value
returns-then-amount-unit-le-MAX_FEE-clause-value c =
    let more : 0 < 24 - c.loop-exponent._exponent = omega arith in
    sym (unit_from-here (24 - c.loop-exponent._exponent) c.loop-exponent.unit c.args.amount more c.if-amount-unit-le-MAX_FEE.true) ∙ c.loop-exponent.invariant.left

pub returns-then-amount-unit-le-MAX_FEE-clause-least : goal.returns-then-amount-unit-le-MAX_FEE-clause-least
returns-then-amount-unit-le-MAX_FEE-clause-least c = record {
  exponent = c.loop-exponent._exponent;
  is_power = c.loop-exponent.invariant.power;
  fits = c.if-amount-unit-le-MAX_FEE.true;
  least = c.loop-exponent.invariant.greater;
}

pub loop-exponent-preserved : goal.loop-exponent-preserved
loop-exponent-preserved c =
    let i = c.loop-exponent._exponent in
    let unit = c.loop-exponent.unit in
    let amount = c.args.amount in
    let one_less : 24 - i ≡ (24 - (i + 1)) + 1 = omega arith in
    let great : max_fee < amount / unit = omega arith in
    record {
      power = next_power i unit c.loop-exponent.invariant.power;
      left = sym (unit_from-next (24 - i) (24 - (i + 1)) unit amount one_less great) ∙ c.loop-exponent.invariant.left;
      greater = below_more _ _ c.loop-exponent.invariant.greater (rw (← c.loop-exponent.invariant.power) great);
    }

pub returns-clause-value : goal.returns-clause-value
returns-clause-value c =
    let none : 24 - c.loop-exponent._exponent ≡ 0 = omega arith in
    sym (unit_from-none (24 - c.loop-exponent._exponent) c.loop-exponent.unit c.args.amount none) ∙ c.loop-exponent.invariant.left

pub returns-clause-least : goal.returns-clause-least
returns-clause-least c =
    let last : c.loop-exponent._exponent ≡ 24 = omega arith in
    record {
      exponent = c.loop-exponent._exponent;
      is_power = c.loop-exponent.invariant.power;
      fits = last_fits c.loop-exponent._exponent c.loop-exponent.unit c.args.amount c.loop-exponent.invariant.power last c.requires;
      least = c.loop-exponent.invariant.greater;
    }
