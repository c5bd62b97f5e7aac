use Rattle.std.proofs.Common.{rules, subst}
use Rattle.rb_want_requests.specs.Hop.{IsHop}
use Rattle.rb_want_requests.proofs.Leading.{further}
use Rattle.rb_want_requests.proofs.searching.search.Goals as goal

-- a hop is one farthest step more
pub hops-preserved : goal.hops-preserved
hops-preserved g c =
    let judges = g.J.Judge.judges c.args.judge.now in
    further judges c.args.aim.now c.args.first c.hops.trusted c.in-To.height c.hops.invariant (search rules)
    (subst (λ hop. IsHop judges c.args.aim.now c.hops.trusted hop) c.in-To.is c.in_ok-height.ensures)
