use Rattle.std.proofs.Common.{ℕ, List, subst, sym, arith}
use Rattle.rb_book.specs.Intake.{with_set}
use Rattle.rb_graph.specs.Numbering.{AreLanesOf}
use Rattle.rb_graph.proofs.Laned.{place_in_tallies, lanes_with_set}
use Rattle.rb_graph.proofs.lanes.enter.Goals as goal

pub insert-requires : goal.insert-requires
insert-requires g c =
    let fits = place_in_tallies c.args.book.now c.args.set.now c.args.lanes.now.columns c.args.lanes.now.tallies.items c.args.place c.requires.lanes c.requires.place in
    omega (arith, fits, c.args.lanes.now.tallies.ok.0)

pub returns : goal.returns
returns g c =
    subst (λ (ts : List (List (ℕ × ℕ))). AreLanesOf (with_set c.args.book.now c.args.set.now).sets c.number_more.new.columns ts) (sym c.in_ok-insert.ensures.items)
    (lanes_with_set c.args.book.now c.args.set.now c.args.lanes.now.columns c.number_more.new.columns c.args.lanes.now.tallies.items c.in_ok-tally.tally c.args.place
    c.requires.lanes c.in_ok-number_more.ensures.extends c.in_ok-number_more.ensures.numbered c.in_ok-tally.ensures c.requires.place)
