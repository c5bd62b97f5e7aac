use Rattle.rb_want.proofs.Waiting.{on_ok, set_asked, unseen}
use Rattle.rb_want.proofs.judged.Steps.add_set.Goals as goal

-- the next page is asked for
pub returns : goal.returns
returns c =
    on_ok c.add_page.result _ _
    (λ is. set_asked c.args.self.now c.args.hash.now c.args.height c.args.lacks.now.items c.add_page.new.lacks.items
    (unseen c.has_set.result _ c.has_set.ensures c.if-has_set.false) is)
    c.add_page.ensures
