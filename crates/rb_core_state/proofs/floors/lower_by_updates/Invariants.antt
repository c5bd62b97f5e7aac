use Rattle.std.proofs.Common.{◌≡◌, [], ◌∷◌, take}
use Rattle.std.specs.List.{flat_map}
use Rattle.rb_step.specs.LightClient.{Update}
use Rattle.rb_core_state.specs.Floors.{lowered}
use Rattle.rb_core_state.proofs.floors.lower_by_updates.Given as goal

abbrev pub invariant-loop-update : goal.invariant-loop-update
invariant-loop-update l = l.least ≡ lowered l.fn.lowest (flat_map (λ (u : Update). u.height ∷ []) (take l.update-index l.updates))
