use Rattle.std.proofs.Common.{replicate, ap}
use Rattle.std.specs.Simd.Lanes.{sel_l}
use Rattle.rb_lanes.proofs.Planes.{lanes_compared}
use Rattle.rb_lanes.proofs.sums.chosen.Goals as goal

pub returns : goal.returns
returns c = ap (λ (bits : _). sel_l bits c.args.lanes (replicate 8 0)) (lanes_compared c.args.bytes 8 c.requires.bytes)
