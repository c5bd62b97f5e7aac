use Rattle.std.proofs.Common.{◌≡◌, ◌+◌, ◌-◌, ◌*◌}
use Rattle.rb_step.specs.View.{client_of}
use Rattle.rb_explain_plan.specs.Search.{IsSoFar}
use Rattle.rb_explain_plan.proofs.bisecting.bisection.Given as goal

abbrev pub invariant-halves : goal.invariant-halves
invariant-halves g l = record {
  first : l.search.first ≡ l.fn.trusted;
  wanted : l.search.wanted ≡ l.wanted;
  so_far : IsSoFar (client_of l.view) l.view.book l.wanted l.fn.trusted l.search.updates.items l.search.trusted l.search.tried;
}

abbrev pub decreases-halves : goal.decreases-halves
decreases-halves g l = (l.wanted - l.search.trusted) * 18446744073709551616 + l.search.tried
