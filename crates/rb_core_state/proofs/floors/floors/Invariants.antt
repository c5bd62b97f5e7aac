use Rattle.std.proofs.Common.{◌≡◌, ◌<◌, ℕ, length}
use Rattle.rb_core_model.specs.Forgetting.{floor}
use Rattle.rb_core_state.specs.Floors.{floor_in, standing_at}
use Rattle.rb_core_state.proofs.floors.floors.Given as goal

abbrev pub invariant-loop-chain : goal.invariant-loop-chain
invariant-loop-chain g l =
    (length l.floors.items ≡ l.chain) × ((chain : ℕ) → chain < l.chain → floor_in l.floors.items chain ≡ floor l.window (standing_at l.window l.books l.clients l.paths) chain)
