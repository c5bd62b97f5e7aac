use Rattle.std.proofs.Common.{◌≡◌, ℕ, ◌+◌, ◌-◌, ◌<◌, ◌≤◌, List, [], ◌∷◌, ◌++◌, length, sym, ap, ◌∙◌, subst, arith, rules}
use Rattle.rb_gang.specs.declared.table.Drawn.{Drawn}
use Rattle.rb_book.specs.Book.{Book}
use Rattle.rb_graph.specs.Frame.{FrameRow}
use Rattle.rb_gang.specs.Shifts.{IsShift}
use Rattle.rb_gang.proofs.Shifting.{shifts_join}
use Rattle.rb_gang.proofs.making.+fn-make_rows-join+arg3+make_rows.Goals as goal

pub returns : goal.returns
returns g t c =
    let table = c.args.table.now in
    let book : Book = c.args.frame.now in
    let one : IsShift table book c.split_off-theirs.result.knows.seats (c.in_ok-theirs.theirs, c.in_ok-theirs.more.items) = search rules in
    let rest : IsShift table book c.split_off-theirs.new.seat.knows.seats (c.in_ok-seat.seat, c.in_ok-seat.rows.items) = search rules in
    let mine : c.split_off-theirs.new.seat.knows.seats ≡ c.args.seat.knows.seats - 1 = ap (λ (k : Drawn). k.seats) c.split_off-theirs.ensures.old in
    let theirs : c.split_off-theirs.result.knows.seats ≡ 1 = ap (λ (k : Drawn). k.seats) c.split_off-theirs.ensures.new in
    let all : c.split_off-theirs.new.seat.knows.seats + c.split_off-theirs.result.knows.seats ≡ c.args.seat.knows.seats = omega (arith, mine, theirs, c.requires.workers) in
    let both = shifts_join table book _ _ c.in_ok-seat.seat c.in_ok-theirs.theirs c.join.new.seat c.in_ok-seat.rows.items c.in_ok-theirs.more.items rest one c.join.ensures.table c.join.ensures.both in
    subst (λ (l : List FrameRow). IsShift table book c.args.seat.knows.seats (c.join.new.seat, l)) (sym c.in_ok-append.ensures.items) (subst (λ (n : ℕ). IsShift table book n (c.join.new.seat, c.in_ok-seat.rows.items ++ c.in_ok-theirs.more.items)) all both)
