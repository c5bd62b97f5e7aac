use Rattle.std.proofs.Common.{nat_le, ap, ◌∙◌, count_by}
use Rattle.rb_book.specs.Book.{is_below}
use Rattle.rb_core_state.proofs.floors.has_many_below.Goals as goal

pub returns : goal.returns
returns g c = ap (nat_le c.args.least) (c.lower_count.ensures ∙ (λ i. count_by (is_below (c.floor-floor.ensures i)) (c.book_in.ensures i).records))
