use Rattle.std.proofs.Common.{◌≡◌, ℕ, ◌+◌, ◌-◌, ◌<◌, ◌≤◌, List, [], ◌∷◌, ◌++◌, length, All, sym, ap, ◌∙◌, subst, inr, refl, arith}
use Rattle.std.proofs.lemmas.List.Elements.{All-push}
use Rattle.rb_book.specs.Book.{Book}
use Rattle.rb_graph.specs.Frame.{FrameRow, IsRowOf, made}
use Rattle.rb_gang.specs.declared.table.Drawn.{Drawn}
use Rattle.rb_gang.specs.Numbers.{times}
use Rattle.rb_gang.specs.Claims.{late}
use Rattle.rb_gang.proofs.Shifting.{shift_end, made_more, none_late_more, just_drawn, low_le}
use Rattle.rb_gang.proofs.making.work.Goals as goal

pub returns-then-n-rows : goal.returns-then-n-rows
returns-then-n-rows g c =
    let inv = c.loop-rows.invariant in
    shift_end c.args.table.now c.args.frame.now c.args.seat.knows.seats _ c.loop-rows.seat.knows c.claim-n.result c.loop-rows.rows.items
    c.claim-n.ensures.table c.claim-n.ensures.drawn inv.same_seats inv.same_rows inv.right inv.each (omega (arith, c.if-n-rows.true, c.rows.ensures))

pub loop-rows-smaller : goal.loop-rows-smaller
loop-rows-smaller g c =
    let low = low_le c.loop-rows.low c.claim-n.result c.loop-rows.seat.knows.numbers c.loop-rows.invariant.last c.claim-n.ensures.above in
    omega (arith, low, c.if-n-rows.false, c.rows.ensures)

pub loop-rows-preserved : goal.loop-rows-preserved
loop-rows-preserved g c =
    let inv = c.loop-rows.invariant in
    let v : Drawn = c.loop-rows.seat.knows in
    let n : ℕ = c.claim-n.result in
    let book : Book = c.args.frame.now in
    let is = c.claim-n.ensures.drawn in
    let lt : n < length book.headers = omega (arith, c.if-n-rows.false, c.rows.ensures) in
    let items = c.in_ok-push.ensures.items in
    record {
      of_table = c.claim-n.ensures.table;
      same_seats = ap (λ (k : Drawn). k.seats) is ∙ inv.same_seats;
      same_rows = ap (λ (k : Drawn). k.rows) is ∙ inv.same_rows;
      right = subst (All (IsRowOf book)) (sym items) (All-push (IsRowOf book) c.loop-rows.rows.items c.in_ok-row.field-0 inv.right c.in_ok-row.ensures.row);
      each = (λ x. subst (λ (l : List FrameRow). made x l ≡ times x c.claim-n.new.seat.knows.numbers) (sym items) (subst (λ (k : Drawn). made x (c.loop-rows.rows.items ++ c.in_ok-row.field-0 ∷ []) ≡ times x k.numbers) (sym is) (made_more x n c.loop-rows.rows.items c.in_ok-row.field-0 v.numbers c.in_ok-row.ensures.number (inv.each x))));
      none_late = subst (λ (k : Drawn). late k ≡ 0) (sym is) (none_late_more v n inv.none_late (omega (arith, lt, inv.same_rows)));
      last = inr (subst (λ (k : Drawn). 0 < times ((n + 1) - 1) k.numbers) (sym is) (just_drawn n v.numbers));
    }
