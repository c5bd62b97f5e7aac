use Rattle.std.proofs.Common.{◌∙◌, ◌+◌, ◌*◌, ◌/◌, ap}
use Rattle.std.specs.Option.{option_copied}
use Rattle.std.proofs.lemmas.Bool.{iff_false}
use Rattle.rb_step.proofs.CarriedBy.{needed_adjacent, needed_known, needed_unknown}
use Rattle.rb_step.proofs.carried.trusted_needed.Goals as goal

pub returns-then-is_adjacent : goal.returns-then-is_adjacent
returns-then-is_adjacent g c =
    needed_adjacent c.args.options.now c.args.trusted_height (option_copied c.args.next) c.args.header.now (c.is_adjacent.ensures.0 c.if-is_adjacent.true)

pub returns-in-Some : goal.returns-in-Some
returns-in-Some g c =
    c.least_above.ensures.value ∙ (λ i. c.total.ensures.value i * (c.trust.ensures i).numerator / (c.trust.ensures i).denominator + 1)
    ∙ needed_known c.args.options.now c.args.trusted_height (option_copied c.args.next) c.args.header.now (iff_false c.is_adjacent.ensures c.if-is_adjacent.false)
    c.in-Some.next.now (ap option_copied c.in-Some.is)

pub returns-in-None : goal.returns-in-None
returns-in-None g c =
    needed_unknown c.args.options.now c.args.trusted_height (option_copied c.args.next) c.args.header.now (iff_false c.is_adjacent.ensures c.if-is_adjacent.false) (ap option_copied c.in-None.is)
