use Rattle.rb_explain.proofs.Jobs.{AreFirstExplained}
use Rattle.rb_explain.proofs.seeing.explain_all.Given as goal

abbrev pub invariant-loop-place : goal.invariant-loop-place
invariant-loop-place g l = AreFirstExplained l.detail l.fn.seen l.fn.reports l.place l.explained.items
