use Rattle.std.proofs.Common.{◌≡◌, [], take, if◌then◌else◌}
use Rattle.std.specs.List.{flat_map}
use Rattle.std.specs.Option.{option_to_list}
use Rattle.std.specs.Prelude.{Some}
use Rattle.rb_core_model.specs.Forgetting.{is_live_in}
use Rattle.rb_core_state.specs.Floors.{lowered}
use Rattle.rb_core_state.proofs.floors.lower_by_live.Given as goal

abbrev pub invariant-loop-height : goal.invariant-loop-height
invariant-loop-height g l =
    l.least ≡ lowered l.fn.lowest (flat_map (λ h. if is_live_in l.window l.period l.book h then option_to_list (Some h) else []) (take l.height-index l.stored))
