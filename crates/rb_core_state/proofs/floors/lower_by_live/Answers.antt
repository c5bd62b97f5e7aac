use Rattle.std.proofs.Common.{[], if◌then◌else◌, ap, ◌∙◌}
use Rattle.std.specs.Option.{option_to_list}
use Rattle.std.specs.Prelude.{Some}
use Rattle.std.specs.List.{flat_map}
use Rattle.std.proofs.lemmas.List.{take_all}
use Rattle.rb_core_model.specs.Forgetting.{is_live_in}
use Rattle.rb_core_state.specs.Floors.{lowered}
use Rattle.rb_core_state.proofs.Lowest.{lowered-next, passing}
use Rattle.rb_core_state.proofs.floors.lower_by_live.Goals as goal

pub loop-height-preserved : goal.loop-height-preserved
loop-height-preserved g c =
    lowered-next (λ h. if is_live_in c.args.window.now c.args.period c.args.book.now h then option_to_list (Some h) else []) c.args.stored.now c.loop-height.height-index c.height-item.result
    c.args.lowest _ _ c.loop-height-test.true c.height-item.is c.loop-height.invariant (rw c.is_live-live.ensures at c.lower_if-least.ensures)

pub returns : goal.returns
returns g c =
    let stored = c.args.stored.now in
    let live = is_live_in c.args.window.now c.args.period c.args.book.now in
    c.loop-height.invariant
    ∙ ap (λ hs. lowered c.args.lowest (flat_map (λ h. if live h then option_to_list (Some h) else []) hs)) (take_all c.loop-height.height-index stored c.loop-height-test.false)
    ∙ ap (lowered c.args.lowest) (passing live stored)
