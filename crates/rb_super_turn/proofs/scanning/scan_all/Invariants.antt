use Rattle.std.proofs.Common.{◌≡◌, ℕ, ◌<◌, ◌*◌, true}
use Rattle.rb_base.specs.declared.gate.Part.{Part}
use Rattle.rb_core.specs.Core.{state_in}
use Rattle.rb_core_model.specs.Machine.{is_scanned}
use Rattle.rb_super_turn.specs.Phases.{standing_in, IsLater}
use Rattle.rb_super_turn.proofs.scanning.scan_all.Given as goal

abbrev pub invariant-loop-path : goal.invariant-loop-path
invariant-loop-path g l = record {
  standing : standing_in l.relayer ≡ standing_in l.fn.relayer;
  scanned : (path : ℕ) (part : Part) → path < l.path → is_scanned (state_in l.relayer) path part ≡ true;
  later : IsLater (2 * l.path) l.fn.relayer l.relayer;
}
