use Rattle.std.proofs.Common.{◌≡◌, ℕ, ◌<◌, ap, ◌∙◌, sym, subst, arith}
use Rattle.rb_gang.specs.Claims.{SeatView, late}
use Rattle.rb_gang.proofs.Claiming.{splits}
use Rattle.rb_gang.proofs.laws.split_off.Goals as goal

pub split_seat-requires : goal.split_seat-requires
split_seat-requires g c =
    let room = subst (λ (p : SeatView). (1 < p.knows.seats) × (late p.knows < p.knows.seats)) (sym c.seat.view_is) (c.requires.several, c.requires.room) in (
      ap (λ (p : SeatView). p.table) c.seat.view_is ∙ c.requires.table ∙ sym (ap (λ t. t.0) c.table.view_is),
      omega (arith, c.table.invariant),
      splits _ _ _ room.0 room.1,
    )
