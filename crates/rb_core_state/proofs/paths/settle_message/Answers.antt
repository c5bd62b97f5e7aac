use Rattle.std.proofs.Common.{◌<◌, length, ap, ◌∙◌, arith}
use Rattle.rb_core_state.specs.Room.{PathWithRoom}
use Rattle.rb_core_model.specs.Standing.{after_message}
use Rattle.rb_core_state.proofs.Places.{seen_changed}
use Rattle.rb_core_state.proofs.paths.settle_message.Goals as goal

pub returns-then-path-len : goal.returns-then-path-len
returns-then-path-len g c =
    let within : c.args.path < length c.args.paths.now.items = omega (arith, c.if-path-len.true, c.len.ensures, c.args.paths.now.ok.0) in
    seen_changed (λ (h : PathWithRoom). h.path) (after_message c.args.message) c.args.paths.now.items c.args.path c.index_mut-state.result.now c.count_on.new.self within c.index_mut-state.ensures.value
    (ap (λ (h : PathWithRoom). h.path) c.count_on.ensures ∙ c.settle.ensures.path)
