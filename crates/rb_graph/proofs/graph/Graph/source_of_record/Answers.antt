use Rattle.std.proofs.Common.{◌≡◌, ◌∙◌, count_by, sym, ap}
use Rattle.rb_book.specs.Book.{is_below}
use Rattle.rb_graph.proofs.Headers.{lower_at_height, lower_of_record, place_within, source_at_height, no_source}
use Rattle.rb_graph.proofs.graph.Graph.source_of_record.Goals as goal

pub returns-in_err-header-clause-value : goal.returns-in_err-header-clause-value
returns-in_err-header-clause-value g c =
    c.from_residual.ensures ∙ no_source c.args.self.now c.args.height (sym c.in_err-header.was ∙ c.header_place.ensures.value)

pub source_at-requires-clause-place : goal.source_at-requires-clause-place
source_at-requires-clause-place g c = place_within c.args.self.now c.args.height c.in_ok-header.header (sym c.in_ok-header.was ∙ c.header_place.ensures.value)

pub source_at-requires-clause-lower : goal.source_at-requires-clause-lower
source_at-requires-clause-lower g c =
    let at = sym c.in_ok-header.was ∙ c.header_place.ensures.value in
    lower_at_height c.args.self.now c.args.height c.args.place c.in_ok-header.header at
    (lower_of_record c.args.self.now c.args.place c.args.height c.header_place.ensures.book c.requires)
    (place_within c.args.self.now c.args.height c.in_ok-header.header at)

pub returns-clause-value : goal.returns-clause-value
returns-clause-value g c =
    source_at_height c.args.self.now c.args.height c.in_ok-header.header c.source_at.result (sym c.in_ok-header.was ∙ c.header_place.ensures.value) c.source_at.ensures
