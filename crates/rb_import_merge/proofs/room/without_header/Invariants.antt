use Rattle.std.proofs.Common.{ℕ, take}
use Rattle.rb_import_merge.specs.Room.{AreThose, HasHeader}
use Rattle.rb_import_merge.proofs.room.without_header.Given as goal

-- of the heights so far these are those without a header
abbrev pub invariant-loop-height : goal.invariant-loop-height
invariant-loop-height l = AreThose (λ (h : ℕ). ¬ HasHeader l.chain h) (HasHeader l.chain) (take l.height-index l.heights) l.bare.items
