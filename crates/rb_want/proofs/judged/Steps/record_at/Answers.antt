use Rattle.rb_want.proofs.Judging.{storing}
use Rattle.rb_want.proofs.judged.Steps.record_at.Goals as goal

-- the record of a header that is there
pub returns-in-Some-header_at-clause-found : goal.returns-in-Some-header_at-clause-found
returns-in-Some-header_at-clause-found c =
    storing c.args.self.now c.args.height c.in-Some-header_at.header.now c.record_of.result c.in-Some-header_at.ensures.found c.record_of.ensures
