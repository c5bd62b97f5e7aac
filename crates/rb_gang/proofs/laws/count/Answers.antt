use Rattle.std.proofs.Common.{◌≡◌, ℕ, ap, ◌∙◌, sym, subst, arith}
use Rattle.rb_gang.specs.Numbers.{times, once_below}
use Rattle.rb_gang.specs.Claims.{SeatView}
use Rattle.rb_gang.proofs.Claiming.{looks}
use Rattle.rb_gang.proofs.laws.count.Goals as goal

pub load-requires : goal.load-requires
load-requires g c = (
  ap (λ (p : SeatView). p.table) c.seat.view_is ∙ c.requires.table ∙ sym (ap (λ t. t.0) c.table.view_is),
  omega (arith, c.table.invariant),
  looks _ _ _ _,
)
