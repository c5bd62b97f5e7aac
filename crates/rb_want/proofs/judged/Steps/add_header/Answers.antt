use Rattle.std.proofs.Common.{rules}
use Rattle.rb_want.proofs.Waiting.{header_asked, header_new, on_ok}
use Rattle.rb_want.proofs.judged.Steps.add_header.Goals as goal

-- the header isn't there
pub returns-in_default : goal.returns-in_default
returns-in_default c =
    on_ok c.add_page.result _ _
    (λ is. header_new c.args.self.now c.args.height _ c.args.lacks.now.items c.push.new.self.items c.add_page.new.lacks.items
    (search rules) (search rules) c.in_ok-push.ensures.items is)
    c.add_page.ensures

-- its set
pub returns : goal.returns
returns c =
    on_ok c.add_set.result _ _
    (λ asked. header_asked c.args.self.now c.args.height _ c.in-Some.signed.now c.args.lacks.now.items c.add_set.new.lacks.items
    c.in-Some.ensures.found (search rules) asked)
    c.add_set.ensures
