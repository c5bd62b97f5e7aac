use Rattle.std.proofs.Common.{◌≡◌, ◌∙◌, ◌+◌, ◌≤◌, ap, length, List, Option, arith}
use Rattle.std.specs.Option.{option_copied}
use Rattle.rb_base.specs.Fee.{charge_of}
use Rattle.rb_valset.specs.Validator.{Member}
use Rattle.rb_book.specs.Book.{set_of}
use Rattle.rb_step.specs.Fee.{least_fee_of, fee_of, size_of}
use Rattle.rb_step.specs.StepRule.{Step, step_of}
use Rattle.rb_step.proofs.CarriedBy.{least_few}
use Rattle.rb_cert.proofs.Targets.{fee_to, own_is_set}
use Rattle.rb_cert.proofs.target.least_fee_from.Goals as goal

pub charge_for-requires : goal.charge_for-requires
charge_for-requires g c = omega (arith, c.requires.least, least_few c.args.view.now.options c.args.header.now c.args.own.now c.requires.target.signed.votes)

pub returns-clause-least : goal.returns-clause-least
returns-clause-least g c =
    let v = c.args.view.now in
    let k = c.args.known.now in
    let header = c.args.header.now in
    let own = c.args.own.now in
    let next = option_copied c.next_set-next.result in
    let s : Step = step_of k.height k.record_of (set_of v.book k.record_of.next) header own in
    let charged : c.charge_for.result ≡ least_fee_of v.options v.fees s =
    c.charge_for.ensures.value ∙ (λ i. charge_of (c.fees.ensures i) (c.requires.least i) (length own + size_of (c.next_set-next.ensures i))) in
    let fewer = c.least_fee_is_least.ensures v.options v.fees s (own_is_set v c.requires.view header own c.requires.target) in
    omega (arith, charged, fewer, fee_to v c.requires.view k header own c.requires.known c.requires.target)
