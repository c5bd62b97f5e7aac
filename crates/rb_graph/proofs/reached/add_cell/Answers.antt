use Rattle.std.proofs.Common.{rules}
use Rattle.rb_graph.proofs.Entered.{stays_below, stays_known, row_named, place_in_row}
use Rattle.rb_graph.proofs.reached.add_cell.Goals as goal

pub returns-then-le : goal.returns-then-le
returns-then-le g c =
    let stays = stays_below c.args.book.now c.args.height c.args.entry.now c.requires.known c.requires.book c.args.header.now c.args.row.now c.requires.row in
    search (rules, stays)

pub bounds-signed-set_place : goal.bounds-signed-set_place
bounds-signed-set_place g c =
    let within = place_in_row c.args.book.now c.args.height c.args.entry.now c.requires.known c.requires.book c.args.set_place c.requires.place c.args.header.now c.args.row.now c.requires.row in
    search (rules, within)

pub returns-then-is_some : goal.returns-then-is_some
returns-then-is_some g c =
    let stays = stays_known c.args.book.now c.args.height c.args.entry.now c.requires.known c.requires.book c.args.set_place c.requires.place c.args.header.now c.args.row.now c.requires.row in
    search (rules, stays)

pub set_signed-requires : goal.set_signed-requires
set_signed-requires g c = place_in_row c.args.book.now c.args.height c.args.entry.now c.requires.known c.requires.book c.args.set_place c.requires.place c.args.header.now c.args.row.now c.requires.row

pub returns : goal.returns
returns g c =
    let named = row_named c.args.book.now c.args.height c.args.entry.now c.requires.known c.requires.book c.args.set_place c.requires.place c.args.header.now c.args.row.now in
    search (rules, named)
