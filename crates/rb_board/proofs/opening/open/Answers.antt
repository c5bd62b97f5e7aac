use Rattle.std.proofs.Common.{◌≡◌, subst}
use Rattle.std.specs.Prelude.{All}
use Rattle.rb_board.specs.Ends.{Pen}
use Rattle.rb_board.proofs.opening.open.Goals as goal

pub returns-clause-desks : goal.returns-clause-desks
returns-clause-desks g c =
    subst (λ (p : Pen). All (λ d. d ≡ record { config = p.config; seen = p.published; told = 0 }) c.seat_desks.new.all.items) c.in_ok-pen.ensures c.seat_desks.ensures.desks
