use Rattle.std.proofs.Common.{All, subst, arith}
use Rattle.std.proofs.lemmas.List.{take_all}
use Rattle.rb_core_model.specs.Fits.{FitsPath}
use Rattle.rb_core_state.specs.Room.{PathWithRoom}
use Rattle.rb_core.proofs.Restoring.{all_more}
use Rattle.rb_core.proofs.fitting.are_paths.Goals as goal

pub loop-path-preserved : goal.loop-path-preserved
loop-path-preserved g c =
    all_more (λ (h : PathWithRoom). FitsPath h.path) c.args.paths.now c.loop-path.path-index c.path-item.result c.loop-path-test.true c.path-item.is c.loop-path.invariant
    (record { rising = c.packets.ensures.rising; from_first = c.packets.ensures.from_first })

pub returns : goal.returns
returns g c = subst (All (λ (h : PathWithRoom). FitsPath h.path)) (take_all c.loop-path.path-index c.args.paths.now (omega arith)) c.loop-path.invariant
