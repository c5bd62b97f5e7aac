use Rattle.std.proofs.Common.{arith}
use Rattle.std.proofs.lemmas.List.Sorted.{IsPermutation-trans}
use Rattle.rb_votes.proofs.Sent.{sent_min}
use Rattle.rb_votes.proofs.sending.sent_count.Goals as goal

pub returns-clause-count : goal.returns-clause-count
returns-clause-count c = λ given stand same.
    let moved = IsPermutation-trans given c.args.voters.now.list c.fewest_count-own_first.new.voters.list same c.fewest_count-own_first.ensures.same in
    let own = c.fewest_count-own_first.ensures.count given stand same in
    let trusted = c.fewest_count-trusted_first.ensures.count given stand moved in
    sent_min c.args.needed given c.min.result (omega (arith, own, trusted, c.min.ensures))
