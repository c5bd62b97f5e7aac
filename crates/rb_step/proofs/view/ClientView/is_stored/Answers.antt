use Rattle.rb_step.specs.View.{client_of}
use Rattle.rb_step.proofs.Heights.{found_is_contained}
use Rattle.rb_step.proofs.view.ClientView.is_stored.Goals as goal

pub returns : goal.returns
unfolding client_of
returns g c = rw (c.is_ok.ensures.value, ← c.self.view_is) (found_is_contained c.self.inside.stored.now c.args.height c.binary_search-found.result c.self.invariant.stored.rising c.binary_search-found.ensures.position)
