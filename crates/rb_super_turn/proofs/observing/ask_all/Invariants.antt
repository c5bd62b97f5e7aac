use Rattle.std.proofs.Common.{◌≡◌, fold, take}
use Rattle.rb_super_turn.specs.Turns.{after_question}
use Rattle.rb_super_turn.specs.Phases.{standing_in, IsLater}
use Rattle.rb_super_turn.proofs.observing.ask_all.Given as goal

abbrev pub invariant-loop-asked : goal.invariant-loop-asked
invariant-loop-asked g l = record {
  standing : standing_in l.relayer ≡ fold after_question (standing_in l.fn.relayer) (take l.asked-index l.goals);
  later : IsLater l.asked-index l.fn.relayer l.relayer;
}
