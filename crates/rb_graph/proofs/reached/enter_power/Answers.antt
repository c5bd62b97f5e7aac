use Rattle.std.proofs.Common.{◌∙◌}
use Rattle.std.proofs.lemmas.Result.{IfOk-weaker}
use Rattle.rb_graph.proofs.Entered.{row_with_set, place_fits_row}
use Rattle.rb_graph.proofs.reached.enter_power.Goals as goal

pub insert-requires : goal.insert-requires
insert-requires g c = place_fits_row c.args.book.now c.args.set.now c.requires.unknown c.args.header.now c.args.row.now c.args.place c.requires.row c.requires.place

pub returns-clause-entered : goal.returns-clause-entered
returns-clause-entered g c =
    let row = row_with_set c.args.book.now c.args.set.now c.requires.unknown c.args.header.now c.args.row.now c.args.place c.args.power c.requires.backed c.requires.row c.requires.place c.requires.power in
    IfOk-weaker c.insert.result _ _ (λ x made. made ∙ row) c.insert.ensures.inserted
