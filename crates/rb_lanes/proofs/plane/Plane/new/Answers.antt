use Rattle.std.proofs.Common.{ap, ◌∙◌}
use Rattle.rb_lanes.specs.Lanes.{bits_of}
use Rattle.rb_lanes.proofs.Planes.{no_bits}
use Rattle.rb_lanes.proofs.plane.Plane.new.Goals as goal

pub returns : goal.returns
returns g c = ap bits_of (c.in_ok-bytes.ensures.items_if_clones_equal (λ y e. e)) ∙ no_bits c.args.columns
