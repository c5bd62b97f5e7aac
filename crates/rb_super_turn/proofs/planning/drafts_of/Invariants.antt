use Rattle.std.proofs.Common.{◌≡◌}
use Rattle.rb_super_turn.specs.Phases.{standing_in}
use Rattle.rb_super_turn.proofs.Drafts.{AreFirst}
use Rattle.rb_super_turn.proofs.planning.drafts_of.Given as goal

abbrev pub invariant-loop-client : goal.invariant-loop-client
invariant-loop-client g l = record {
  drafts : AreFirst (standing_in l.fn.relayer) l.client l.drafts.items;
  same : l.relayer ≡ l.fn.relayer;
}
