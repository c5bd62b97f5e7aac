use Rattle.std.proofs.Common.{◌≡◌, ◌∙◌, ◌+◌, ap, length, List, Option}
use Rattle.std.specs.Option.{option_copied}
use Rattle.rb_base.specs.Fee.{charge_of}
use Rattle.rb_valset.specs.Validator.{Member}
use Rattle.rb_step.specs.Carried.{carried_votes}
use Rattle.rb_step.specs.Fee.{fee_of, size_of}
use Rattle.rb_step.specs.StepRule.{step_of}
use Rattle.rb_cert.proofs.Targets.{fee_to}
use Rattle.rb_cert.proofs.target.fee_from.Goals as goal

pub returns-clause-value : goal.returns-clause-value
returns-clause-value g c =
    let v = c.args.view.now in
    let k = c.args.known.now in
    let header = c.args.header.now in
    let own = c.args.own.now in
    let next = option_copied c.next_set-next.result in
    let votes = c.carried_votes-votes.ensures.value ∙ (λ i. carried_votes (c.options.ensures i) (c.height.ensures i) next header own) in
    let charged : c.charge_for.result ≡ fee_of v.options v.fees (step_of k.height k.record_of next header own) =
    c.charge_for.ensures.value ∙ (λ i. charge_of (c.fees.ensures i) (votes i) (length own + size_of next)) in
    charged ∙ ap (λ (o : Option (List Member)). fee_of v.options v.fees (step_of k.height k.record_of o header own)) c.next_set-next.ensures
    ∙ fee_to v c.requires.view k header own c.requires.known c.requires.target
