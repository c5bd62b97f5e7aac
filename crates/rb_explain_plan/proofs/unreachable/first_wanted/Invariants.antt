use Rattle.rb_explain_plan.proofs.Told.{IsFirstAmong}
use Rattle.rb_explain_plan.proofs.unreachable.first_wanted.Given as goal

abbrev pub invariant-loop-header : goal.invariant-loop-header
invariant-loop-header g l = IsFirstAmong l.goal l.headers l.header-index l.first
