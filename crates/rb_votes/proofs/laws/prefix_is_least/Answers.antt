use Rattle.std.proofs.Common.{arith}
use Rattle.rb_votes.proofs.Sent.{part_power, fewest_reach, fewest_least}
use Rattle.rb_votes.proofs.laws.prefix_is_least.Goals as goal

pub returns : goal.returns
returns c = λ power needed voters votes part enough.
    (fewest_reach power needed voters (omega (arith, enough, part_power power voters votes part)), fewest_least power needed voters votes part enough)
