use Rattle.std.proofs.Common.{rules}
use Rattle.rb_want.proofs.Waiting.{next_asked, on_ok}
use Rattle.rb_want.proofs.judged.Steps.add_next.Goals as goal

-- the set that the record names
pub returns : goal.returns
returns c =
    on_ok c.add_set.result _ _
    (λ asked. next_asked c.args.self.now c.args.trusted _ c.in-Some.record _ c.args.lacks.now.items c.add_set.new.lacks.items
    c.in-Some.ensures.found (search rules) (search rules) asked)
    c.add_set.ensures
