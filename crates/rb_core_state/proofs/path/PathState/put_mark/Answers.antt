use Rattle.rb_core_model.specs.Standing.{PathState}
use Rattle.rb_core_state.proofs.Counted.{held_marked}
use Rattle.rb_core_state.proofs.path.PathState.put_mark.Goals as goal

pub invariant_of-self : goal.invariant_of-self
invariant_of-self g c =
    let old : PathState = record { config = c.self.inside.config; first = c.self.inside.first; packets = c.self.inside.packets.items; closed = c.self.inside.closed } in
    rw c.put_mark.ensures.items (held_marked c.args.mark c.get.result c.self.inside.run old c.self.invariant)
