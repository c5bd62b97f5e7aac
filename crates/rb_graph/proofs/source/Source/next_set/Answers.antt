use Rattle.std.proofs.Common.{◌≡◌, ◌∙◌, sym, get_or, Some, None}
use Rattle.std.specs.List.{slice_get}
use Rattle.std.proofs.lemmas.Option.{slice_get-get_or}
use Rattle.rb_graph.specs.StoredRow.{next_place}
use Rattle.rb_graph.specs.Source.{lower_records}
use Rattle.rb_graph.proofs.CellOf.{next_set-known, next_set-unknown}
use Rattle.rb_graph.proofs.Sources.{no_record}
use Rattle.rb_graph.proofs.source.Source.next_set.Goals as goal

pub returns-in-Some : goal.returns-in-Some
returns-in-Some g c =
    let b = c.args.self.now.book in
    let h = c.args.self.now.header in
    let k = get_or (lower_records b h.height) c.args.place no_record in
    let at : slice_get (lower_records b h.height) c.args.place ≡ Some k = slice_get-get_or (lower_records b h.height) c.args.place no_record c.requires in
    let place : next_place b k ≡ Some c.in-Some.set_place = sym (rw at at c.next_place.ensures) ∙ c.in-Some.is in
    rw at (next_set-known b k c.in-Some.set_place c.set_at.result.now place c.set_at.ensures.value)

pub returns-in-None : goal.returns-in-None
returns-in-None g c =
    let b = c.args.self.now.book in
    let h = c.args.self.now.header in
    let k = get_or (lower_records b h.height) c.args.place no_record in
    let at : slice_get (lower_records b h.height) c.args.place ≡ Some k = slice_get-get_or (lower_records b h.height) c.args.place no_record c.requires in
    let none : next_place b k ≡ None = sym (rw at at c.next_place.ensures) ∙ c.in-None.is in
    rw at (next_set-unknown b k none)
