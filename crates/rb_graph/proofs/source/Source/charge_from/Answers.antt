use Rattle.std.proofs.Common.{◌≡◌, Some}
use Rattle.std.specs.List.{slice_get}
use Rattle.rb_graph.specs.Source.{lower_records}
use Rattle.rb_graph.proofs.Charges.{own_signs, charged_from}
use Rattle.rb_graph.proofs.source.Source.charge_from.Goals as goal

pub carried_votes-votes-requires : goal.carried_votes-votes-requires
carried_votes-votes-requires g c = own_signs c.self.inside.book.now c.self.inside.header.now c.self.inside.own.now c.self.invariant.1 c.self.invariant.5

pub returns-clause-value : goal.returns-clause-value
returns-clause-value g c =
    let s = c.args.self.now in
    let k = c.lower_record.result.now in
    let at : slice_get (lower_records s.book s.header.height) c.args.place ≡ Some k = c.lower_record.ensures.value in
    rw at (charged_from c.self.inside.book.now c.self.inside.header.now s c.self.view_is c.self.inside.own.now c.self.invariant.5 c.args.options.now c.args.table.now k
    c.height-height.result c.carried_votes-votes.result c.charge_for.result _ c.height-height.ensures (rw at at c.next_set-next.ensures)
    c.carried_votes-votes.ensures.value c.charge_for.ensures.value)
