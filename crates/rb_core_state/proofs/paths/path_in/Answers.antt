use Rattle.rb_core_state.specs.Room.{PathWithRoom}
use Rattle.rb_core_state.proofs.Places.{found_seen}
use Rattle.rb_core_state.proofs.paths.path_in.Goals as goal

pub returns : goal.returns
returns g c = found_seen (λ (h : PathWithRoom). h.path) c.args.paths.now c.args.path c.index-paths-path.result c.requires c.index-paths-path.is
