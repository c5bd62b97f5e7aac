use Rattle.std.proofs.Common.{◌≡◌}
use Rattle.rb_core.specs.Core.{state_in}
use Rattle.rb_explain.specs.Wanted.{has_client}
use Rattle.rb_explain.proofs.Jobs.{AreFirstJobs}
use Rattle.rb_explain.proofs.seeing.see_all.Given as goal

abbrev pub invariant-loop-client : goal.invariant-loop-client
invariant-loop-client g l = record {
  jobs : AreFirstJobs (state_in l.fn.relayer) (has_client l.wanted l.number) l.client l.seen.items;
  same : l.relayer ≡ l.fn.relayer;
}
