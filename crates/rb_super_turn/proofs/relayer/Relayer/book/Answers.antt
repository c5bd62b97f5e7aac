use Rattle.std.proofs.Common.{◌≡◌, IfOk, subst}
use Rattle.rb_core_model.specs.Machine.{State}
use Rattle.rb_core_model.specs.Standing.{book_at}
use Rattle.rb_super_turn.proofs.Steps.{state_seen}
use Rattle.rb_super_turn.proofs.relayer.Relayer.book.Goals as goal

pub returns : goal.returns
returns g c =
    subst (λ (s : State). IfOk c.book.result (λ shared. shared.book ≡ book_at s.standing.books c.args.chain))
    (state_seen c.core.result.now (g.M.Machine.seen_as c.self.inside.machine) _ c.core.ensures.config c.core.ensures.log c.self.view_is) c.book.ensures
