use Rattle.std.proofs.Common.{arith}
use Rattle.std.proofs.lemmas.List.Sorted.{length_permutation}
use Rattle.rb_votes.proofs.sending.fewest_count.Goals as goal

pub returns-clause-within : goal.returns-clause-within
returns-clause-within c =
    omega (
      arith,
      c.thinned_len.ensures.within,
      c.bring_fewest-count.ensures.within,
      length_permutation c.args.voters.now.list c.bring_fewest-count.new.voters.list c.bring_fewest-count.ensures.same,
    )
