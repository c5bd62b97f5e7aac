use Rattle.rb_graph.proofs.Sources.{kept_within, kept_at}
use Rattle.rb_graph.proofs.source.Source.stored_power.Goals as goal

pub bounds-signed-set_place : goal.bounds-signed-set_place
bounds-signed-set_place g c = rw c.signed.ensures (kept_within _ _ _ c.self.view_is c.self.inside.kept.now _ c.self.invariant.3 c.requires)

pub returns : goal.returns
returns g c = rw c.signed.ensures (kept_at _ _ _ c.self.view_is c.self.inside.kept.now _ c.self.invariant.3 c.requires)
