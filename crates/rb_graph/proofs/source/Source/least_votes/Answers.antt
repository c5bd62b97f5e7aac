use Rattle.rb_graph.proofs.Charges.{own_signs, least_here, least_few_here}
use Rattle.rb_graph.proofs.source.Source.least_votes.Goals as goal

pub least_votes-requires : goal.least_votes-requires
least_votes-requires g c = own_signs c.self.inside.book.now c.self.inside.header.now c.self.inside.own.now c.self.invariant.1 c.self.invariant.5

pub returns-clause-value : goal.returns-clause-value
returns-clause-value g c =
    least_here c.self.inside.book.now c.self.inside.header.now c.args.self.now c.self.view_is c.self.inside.own.now c.self.invariant.5 c.args.options.now c.least_votes.result c.least_votes.ensures.value

pub returns-clause-bound : goal.returns-clause-bound
returns-clause-bound g c =
    least_few_here c.self.inside.book.now c.self.inside.header.now c.args.self.now c.self.view_is c.self.inside.own.now c.self.invariant.5 c.least_votes.result c.least_votes.ensures.bound
