use Rattle.std.proofs.Common.{arith}
use Rattle.rb_graph.proofs.Finishing.{made_within}
use Rattle.rb_graph.proofs.finish.flaw.Goals as goal

pub returns-in-Some-clause-cause : goal.returns-in-Some-clause-cause
returns-in-Some-clause-cause g c =
    (made_within c.args.total c.args.rows.now c.in-Some.n c.requires.below (omega (arith, c.in-Some.ensures.twice)), c.in-Some.ensures)
