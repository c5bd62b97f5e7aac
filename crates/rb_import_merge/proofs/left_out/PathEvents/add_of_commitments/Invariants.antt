use Rattle.std.proofs.Common.{ℕ, All, take}
use Rattle.rb_import_check.specs.declared.saved.Saved.{Saved}
use Rattle.rb_import_merge.specs.LeftOut.{HasEntry, IsLeftOutFor}
use Rattle.rb_import_merge.specs.Pending.{committed_in}
use Rattle.rb_import_merge.proofs.Leaving.{CommitmentHas}
use Rattle.rb_import_merge.proofs.left_out.PathEvents.add_of_commitments.Given as goal

-- the entries are of packets that lack something, and those of the commitments so far are among them
abbrev pub invariant-loop-saved : goal.invariant-loop-saved
invariant-loop-saved l = record {
  reasons : All (IsLeftOutFor l.self.setup.now l.self.answers.now) l.fn.lacking.items → All (IsLeftOutFor l.self.setup.now l.self.answers.now) l.lacking.items;
  kept : (n : ℕ) → HasEntry n l.fn.lacking.items → HasEntry n l.lacking.items;
  all : All (λ (s : Saved). All (CommitmentHas l.self.setup.now l.self.answers.now l.lacking.items) (committed_in s.answer)) (take l.saved-index l.self.answers.now);
}
