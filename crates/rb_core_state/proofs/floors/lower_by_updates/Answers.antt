use Rattle.std.proofs.Common.{[], ◌∷◌, ap, ◌∙◌}
use Rattle.std.specs.Prelude.{Some}
use Rattle.rb_scan.specs.Expiry.{lesser}
use Rattle.rb_step.specs.LightClient.{Update}
use Rattle.std.specs.List.{flat_map}
use Rattle.std.proofs.lemmas.List.{take_all}
use Rattle.rb_core_state.specs.Floors.{lowered}
use Rattle.rb_core_state.proofs.Lowest.{lowered-next, singles}
use Rattle.rb_core_state.proofs.floors.lower_by_updates.Goals as goal

pub loop-update-preserved : goal.loop-update-preserved
loop-update-preserved c =
    lowered-next (λ (u : Update). u.height ∷ []) c.args.updates.now c.loop-update.update-index c.update-item.result c.args.lowest _ _
    c.loop-update-test.true c.update-item.is c.loop-update.invariant (c.lesser-least.ensures ∙ ap (λ h. lesser c.loop-update.least (Some h)) c.height.ensures)

pub returns : goal.returns
returns c =
    let updates = c.args.updates.now in
    c.loop-update.invariant ∙ ap (λ us. lowered c.args.lowest (flat_map (λ (u : Update). u.height ∷ []) us)) (take_all c.loop-update.update-index updates c.loop-update-test.false)
    ∙ ap (lowered c.args.lowest) (singles (λ (u : Update). u.height) updates)
