use Rattle.std.proofs.Common.{◌∙◌}
use Rattle.rb_graph.proofs.Entered.{row_without_set, place_before_row}
use Rattle.rb_graph.proofs.reached.leave_power.Goals as goal

pub remove-requires : goal.remove-requires
remove-requires g c = place_before_row c.args.book.now c.args.set.now c.requires.unknown c.args.header.now c.args.row.now c.args.place c.requires.row c.requires.place

pub returns : goal.returns
returns g c = c.remove.ensures ∙ row_without_set c.args.book.now c.args.set.now c.requires.unknown c.args.header.now c.args.row.now c.args.place c.requires.backed c.requires.row c.requires.place
