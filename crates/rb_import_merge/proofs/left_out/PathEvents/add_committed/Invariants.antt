use Rattle.std.proofs.Common.{ℕ, All, take}
use Rattle.std.specs.Prelude.{Contains}
use Rattle.rb_import_merge.specs.LeftOut.{HasEntry, IsLeftOutFor}
use Rattle.rb_import_merge.specs.Pending.{committed_in}
use Rattle.rb_import_merge.proofs.Leaving.{CommitmentHas}
use Rattle.rb_import_merge.proofs.left_out.PathEvents.add_committed.Given as goal

-- the entries are of packets that lack something, and those of the commitments so far are among them
abbrev pub invariant-loop-sequence : goal.invariant-loop-sequence
invariant-loop-sequence l = record {
  reasons : Contains l.self.answers.now l.saved → All (IsLeftOutFor l.self.setup.now l.self.answers.now) l.fn.lacking.items
      → All (IsLeftOutFor l.self.setup.now l.self.answers.now) l.lacking.items;
  kept : (n : ℕ) → HasEntry n l.fn.lacking.items → HasEntry n l.lacking.items;
  all : All (CommitmentHas l.self.setup.now l.self.answers.now l.lacking.items) (take l.sequence-index (committed_in l.saved.answer));
}
