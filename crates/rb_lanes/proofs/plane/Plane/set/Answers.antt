use Rattle.std.proofs.Common.{List, Bool, true, set, ap, ◌∙◌}
use Rattle.rb_lanes.proofs.Planes.{bit_raised}
use Rattle.rb_lanes.proofs.plane.Plane.set.Goals as goal

pub returns : goal.returns
returns g c = bit_raised c.self.inside.bytes.items c.args.column ∙ ap (λ (bits : List Bool). set bits c.args.column true) c.self.view_is
