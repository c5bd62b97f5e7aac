use Rattle.std.proofs.Common.{arith}
use Rattle.std.proofs.lemmas.List.Sorted.{IsPermutation-trans}
use Rattle.rb_votes.proofs.Sent.{own_sent, trusted_sent}
use Rattle.rb_votes.proofs.sending.sent_votes.Goals as goal

pub returns-then-len : goal.returns-then-len
returns-then-len g c = λ given stand same.
    let moved = IsPermutation-trans given c.args.voters.now.list c.fewest_votes.new.voters.list same c.in_ok-own_first.ensures.same in
    own_sent c.args.needed given c.in_ok-own_first.own_first.items c.in_ok-trusted_first.trusted_first.items
    (c.in_ok-own_first.ensures.votes given stand same) (c.in_ok-trusted_first.ensures.votes given stand moved)
    (omega (arith, c.if-len.true, c.len.ensures, c.len-2.ensures))

pub returns-else-len : goal.returns-else-len
returns-else-len g c = λ given stand same.
    let moved = IsPermutation-trans given c.args.voters.now.list c.fewest_votes.new.voters.list same c.in_ok-own_first.ensures.same in
    trusted_sent c.args.needed given c.in_ok-trusted_first.trusted_first.items c.in_ok-own_first.own_first.items
    (c.in_ok-own_first.ensures.votes given stand same) (c.in_ok-trusted_first.ensures.votes given stand moved)
    (omega (arith, c.if-len.false, c.len.ensures, c.len-2.ensures))
