use Rattle.std.proofs.Common.{◌≡◌, ◌∙◌, ℕ, Bool, false, List, length, get_or, ap, sym, arith}
use Rattle.rb_valset.specs.Validator.{Member, address_of}
use Rattle.rb_book.specs.Header.{is_commit}
use Rattle.rb_book.specs.declared.vote.Vote.{Vote}
use Rattle.rb_book.specs.declared.vote.Vote.TheVariants.{Commit}
use Rattle.rb_cert.specs.Voters.{mark_of}
use Rattle.rb_cert.proofs.MarkedVoters.{one_marked, none_marked, all_marked}
use Rattle.rb_cert.proofs.voters.VoterMarks.of.Goals as goal
use Rattle.rb_cert.proofs.voters.VoterMarks.of.Goals.{then-is_commit, else-is_commit}

pub loop-place-preserved : goal.loop-place-preserved
loop-place-preserved g c =
    let own = c.args.own.now in
    let votes = c.args.header.now.votes in
    let i = c.loop-place.place in
    let m = c.member-item.result in
    let is : m ≡ get_or own i m = c.member-item.is ∙ ap (λ (l : List Member). get_or l i m) c.members-member-items.ensures.members in
    elim c.if-is_commit.branch [
      | then-is_commit w ↦ rw w.marks-is (one_marked own votes i m c.loop-place.marks.words c.loop-place.invariant w.insert.new.self.words is (rw (w.mark_of.ensures.value, w.address.ensures) at w.insert.ensures))
      | else-is_commit w ↦
          let passed : is_commit (get_or votes i Commit) ≡ false = ap (λ (l : List Vote). is_commit (get_or l i Commit)) (sym c.votes-votes.ensures) ∙ sym c.is_commit.ensures ∙ w.if-is_commit.false in
          rw w.marks-is (none_marked own votes i m c.loop-place.marks.words c.loop-place.invariant passed)
    ]

pub returns : goal.returns
returns g c =
    let many : length c.members-member-items.result.now ≡ length c.args.own.now = ap (λ (l : List Member). length l) c.members-member-items.ensures.members in
    all_marked c.args.own.now c.args.header.now c.loop-place.marks.words c.loop-place.place c.members-member-items.ensures.set c.requires.votes (omega (arith, many)) c.loop-place.invariant
