use Rattle.std.proofs.Common.{◌∙◌, arith}
use Rattle.rb_step.specs.SignedPower.{commit_voters}
use Rattle.rb_step.proofs.Voters.{lent_fits, lent_all, signed_power-le}
use Rattle.rb_step.proofs.power.signed_power.Goals as goal

pub overflow_add-signed : goal.overflow_add-signed
overflow_add-signed g c =
    let fits = lent_fits (commit_voters c.args.own.now c.args.header.now) c.args.trusted.now c.members-member-items.result.now c.loop-member.member-index c.member-item.result c.members-member-items.ensures.members c.members-member-items.ensures.set (omega arith) c.member-item.is in
    omega (arith, fits, c.loop-member.invariant, c.power-signed.ensures.value)

pub returns-clause-value : goal.returns-clause-value
returns-clause-value g c = c.loop-member.invariant ∙ lent_all c.args.trusted.now c.args.own.now c.args.header.now c.members-member-items.result.now c.loop-member.member-index c.members-member-items.ensures.members (omega arith)

pub returns-clause-bound : goal.returns-clause-bound
returns-clause-bound g c =
    let value = c.loop-member.invariant ∙ lent_all c.args.trusted.now c.args.own.now c.args.header.now c.members-member-items.result.now c.loop-member.member-index c.members-member-items.ensures.members (omega arith) in
    omega (arith, value, signed_power-le c.args.trusted.now c.args.own.now c.args.header.now)
