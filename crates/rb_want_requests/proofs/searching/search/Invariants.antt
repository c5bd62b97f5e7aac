use Rattle.std.proofs.Common.{◌-◌}
use Rattle.rb_want_requests.specs.Search.{IsReached}
use Rattle.rb_want_requests.proofs.searching.search.Given as goal

-- the trusted height is reached
abbrev pub invariant-hops : goal.invariant-hops
invariant-hops g l = IsReached (g.J.Judge.judges l.judge) l.aim l.fn.first l.trusted

-- each hop leads to a greater height
abbrev pub decreases-hops : goal.decreases-hops
decreases-hops g l = l.aim.most - l.trusted
