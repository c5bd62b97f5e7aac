use Rattle.rb_explain.proofs.Waits.{IsUnsent}
use Rattle.rb_explain.proofs.waiting.unsent.Given as goal

abbrev pub invariant-loop-message : goal.invariant-loop-message
invariant-loop-message g l = IsUnsent l.owed l.initial.sent l.message-index l.sent l.waiting.items
