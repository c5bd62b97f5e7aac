use Rattle.std.proofs.Common.{◌+◌, ◌∙◌, sym, ap, subst, arith, List, length}
use Rattle.std.specs.Option.{option_copied}
use Rattle.rb_valset.specs.Validator.{Member}
use Rattle.rb_book.specs.declared.vote.Vote.TheVariants.{Commit}
use Rattle.rb_step.proofs.Put.{IsPut, put_more, put_past, put_end, put_stand}
use Rattle.rb_step.proofs.carried.put_voters.Goals as goal
use Rattle.rb_step.proofs.carried.put_voters.Goals.{then-is_commit, else-is_commit}

pub loop-place-preserved : goal.loop-place-preserved
loop-place-preserved g c =
    let next = option_copied c.args.next in
    let own = c.args.own.now in
    let header = c.args.header.now in
    let l = c.loop-place in
    let items = c.members-members.result.now in
    let votes = c.votes-votes.result.now in
    let m = c.index-members-place.result in
    let long = ap (λ (ms : List Member). length ms) c.members-members.ensures.members in
    elim c.if-is_commit.branch [
      | then-is_commit w ↦
          put_more next own header items votes l.place m Commit c.is_commit.result c.members-members.ensures.members c.votes-votes.ensures c.requires.signed.votes
          (omega (arith, long, c.loop-place-test.true, c.size-place-end.ensures.value)) c.index-members-place.is c.is_commit.ensures l.voters l.invariant
          w.if-is_commit.true w.place_in.result w.place_in.ensures.power c.if-is_commit.voters (w.voters-is ∙ w.push.ensures)
      | else-is_commit w ↦
          subst (λ voters. IsPut next own header (l.place + 1) voters) (sym w.voters-is)
          (put_past next own header items votes l.place m Commit c.is_commit.result c.members-members.ensures.members c.votes-votes.ensures c.requires.signed.votes
          (omega (arith, long, c.loop-place-test.true, c.size-place-end.ensures.value)) c.index-members-place.is c.is_commit.ensures l.voters l.invariant
          w.if-is_commit.false)
    ]

pub returns-clause-voters : goal.returns-clause-voters
returns-clause-voters g c =
    put_end (option_copied c.args.next) c.args.own.now c.args.header.now c.loop-place.place c.loop-place.voters c.loop-place.invariant (omega (arith, c.size-place-end.ensures.value))

pub returns-clause-places : goal.returns-clause-places
returns-clause-places g c =
    put_stand (option_copied c.args.next) c.args.own.now c.args.header.now c.loop-place.voters.list
    (put_end (option_copied c.args.next) c.args.own.now c.args.header.now c.loop-place.place c.loop-place.voters c.loop-place.invariant (omega (arith, c.size-place-end.ensures.value)))
