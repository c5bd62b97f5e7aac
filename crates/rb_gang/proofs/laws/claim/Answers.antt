use Rattle.std.proofs.Common.{◌≡◌, ℕ, ◌<◌, ap, ◌∙◌, sym, subst, arith}
use Rattle.rb_gang.specs.Numbers.{times}
use Rattle.rb_gang.specs.Claims.{SeatView, late}
use Rattle.rb_gang.proofs.Claiming.{draws}
use Rattle.rb_gang.proofs.laws.claim.Goals as goal

pub fetch_add-requires : goal.fetch_add-requires
fetch_add-requires g c =
    let live = subst (λ (p : SeatView). (0 < p.knows.seats) × (late p.knows ≡ 0)) (sym c.seat.view_is) (c.requires.live, c.requires.none_late) in (
      ap (λ (p : SeatView). p.table) c.seat.view_is ∙ c.requires.table ∙ sym (ap (λ t. t.0) c.table.view_is),
      omega (arith, c.table.invariant),
      draws _ _ _ live.0 live.1 _,
    )

pub returns-clause-above : goal.returns-clause-above
returns-clause-above g c = subst (λ (p : SeatView). (x : ℕ) → 0 < times x p.knows.numbers → x < c.fetch_add.result) c.seat.view_is c.fetch_add.ensures.2.1
