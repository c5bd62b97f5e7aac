use Rattle.std.proofs.Common.{◌≡◌, ℕ, ◌<◌, ap, ◌∙◌, sym, subst, arith}
use Rattle.rb_gang.specs.Claims.{SeatView}
use Rattle.rb_gang.proofs.Claiming.{joins}
use Rattle.rb_gang.proofs.laws.join.Goals as goal

pub join_seat-requires : goal.join_seat-requires
join_seat-requires g c =
    let live = subst (λ (p : SeatView). 0 < p.knows.seats) (sym c.seat.view_is) c.requires.live in (
      ap (λ (p : SeatView). p.table) c.seat.view_is ∙ c.requires.table ∙ sym (ap (λ t. t.0) c.table.view_is),
      ap (λ (p : SeatView). p.table) c.other.view_is ∙ c.requires.other ∙ sym (ap (λ t. t.0) c.table.view_is),
      c.other.invariant,
      omega (arith, c.table.invariant),
      joins _ _ _ _ _ live,
    )
