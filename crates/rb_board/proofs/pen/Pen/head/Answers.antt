use Rattle.std.proofs.Common.{sym, subst}
use Rattle.rb_core_model.specs.Snapshot.{Log, IsBeginning}
use Rattle.rb_board.specs.Ends.{Pen}
use Rattle.rb_board.specs.Rule.{pending}
use Rattle.rb_core.specs.Follower.{log_in}
use Rattle.rb_board.proofs.Boarding.{published_begins}
use Rattle.rb_board.proofs.pen.Pen.head.Goals as goal

pub returns-clause-published : goal.returns-clause-published
returns-clause-published g c =
    let shown = c.self.inside.writer.desk.shown.value.follower in
    subst (λ (s : Pen). IsBeginning s.published s.log) c.self.view_is
    (subst (λ (l : Log). IsBeginning (log_in shown.past) l) (sym c.self.invariant.leads) (published_begins shown (pending c.self.inside.writer)))
