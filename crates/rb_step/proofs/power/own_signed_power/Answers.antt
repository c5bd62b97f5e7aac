use Rattle.std.proofs.Common.{◌∙◌, arith}
use Rattle.rb_book.specs.declared.vote.Vote.TheVariants.{Commit}
use Rattle.rb_step.specs.SignedPower.{commit_voters}
use Rattle.rb_step.proofs.Voters.{lent_fits, lent_more, lent_all}
use Rattle.rb_step.proofs.power.own_signed_power.Goals as goal
use Rattle.rb_step.proofs.power.own_signed_power.Goals.{then-is_commit, else-is_commit}

pub overflow_add-signed : goal.overflow_add-signed
overflow_add-signed g c =
    let fits = lent_fits (commit_voters c.args.own.now c.args.header.now) c.args.own.now c.members-member-items.result.now c.loop-place.place c.member-item.result c.members-member-items.ensures.members c.members-member-items.ensures.set (omega arith) c.member-item.is in
    omega (arith, fits, c.loop-place.invariant, c.power-signed.ensures.value)

pub loop-place-preserved : goal.loop-place-preserved
loop-place-preserved g c =
    let more = lent_more c.args.own.now c.args.header.now c.members-member-items.result.now c.votes-votes.result.now c.loop-place.place c.member-item.result Commit c.is_commit.result c.members-member-items.ensures.members c.votes-votes.ensures c.members-member-items.ensures.set.distinct c.requires.votes (omega arith) c.member-item.is c.is_commit.ensures in
    elim c.if-is_commit.branch [
      | then-is_commit w ↦ omega (arith, rw w.if-is_commit.true at more, w.signed-is, c.loop-place.invariant, w.power-signed.ensures.value)
      | else-is_commit w ↦ omega (arith, rw w.if-is_commit.false at more, w.signed-is, c.loop-place.invariant)
    ]

pub returns : goal.returns
returns g c = c.loop-place.invariant ∙ lent_all c.args.own.now c.args.own.now c.args.header.now c.members-member-items.result.now c.loop-place.place c.members-member-items.ensures.members (omega arith)
