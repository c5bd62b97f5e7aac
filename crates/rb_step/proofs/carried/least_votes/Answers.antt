use Rattle.std.proofs.Common.{◌∙◌, sym, arith}
use Rattle.rb_step.proofs.CarriedBy.{least_commit, least_cast, least_need, least_few}
use Rattle.rb_step.proofs.carried.least_votes.Goals as goal

pub returns-in-Commit-clause-value : goal.returns-in-Commit-clause-value
returns-in-Commit-clause-value g c = c.commits.ensures ∙ sym (least_commit c.args.options.now c.args.header.now c.args.own.now (sym c.votes.ensures ∙ c.in-Commit.is))

pub returns-in-Commit-clause-bound : goal.returns-in-Commit-clause-bound
returns-in-Commit-clause-bound g c =
    let value = c.commits.ensures ∙ sym (least_commit c.args.options.now c.args.header.now c.args.own.now (sym c.votes.ensures ∙ c.in-Commit.is)) in
    omega (arith, value, least_few c.args.options.now c.args.header.now c.args.own.now c.requires.votes)

pub returns-in-Cast-clause-value : goal.returns-in-Cast-clause-value
returns-in-Cast-clause-value g c = c.cast.ensures ∙ sym (least_cast c.args.options.now c.args.header.now c.args.own.now (sym c.votes.ensures ∙ c.in-Cast.is))

pub returns-in-Cast-clause-bound : goal.returns-in-Cast-clause-bound
returns-in-Cast-clause-bound g c =
    let value = c.cast.ensures ∙ sym (least_cast c.args.options.now c.args.header.now c.args.own.now (sym c.votes.ensures ∙ c.in-Cast.is)) in
    omega (arith, value, least_few c.args.options.now c.args.header.now c.args.own.now c.requires.votes)

pub returns-in-Needed-clause-value : goal.returns-in-Needed-clause-value
returns-in-Needed-clause-value g c = c.least_needed.ensures ∙ sym (least_need c.args.options.now c.args.header.now c.args.own.now (sym c.votes.ensures ∙ c.in-Needed.is))

pub returns-in-Needed-clause-bound : goal.returns-in-Needed-clause-bound
returns-in-Needed-clause-bound g c =
    let value = c.least_needed.ensures ∙ sym (least_need c.args.options.now c.args.header.now c.args.own.now (sym c.votes.ensures ∙ c.in-Needed.is)) in
    omega (arith, value, least_few c.args.options.now c.args.header.now c.args.own.now c.requires.votes)
