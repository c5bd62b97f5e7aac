use Rattle.std.proofs.Common.{List, map, arith, ap, subst, ◌∙◌}
use Rattle.std.specs.List.{All}
use Rattle.rb_valset.specs.Validator.{Member}
use Rattle.rb_book.specs.Book.{address_count}
use Rattle.rb_graph.specs.Numbering.{AreNumbered, entries_of}
use Rattle.rb_graph.proofs.frame.Frame.from_book.Goals as goal

pub number_sets-requires : goal.number_sets-requires
number_sets-requires g c = omega (arith, c.sets.ensures.book.few_addresses, ap address_count c.sets.ensures.value)

pub invariant_of-result : goal.invariant_of-result
invariant_of-result g c = (
  c.in_ok-next_places.ensures,
  c.in_ok-lowest.ensures,
  subst (λ (ss : List (List Member)). All (AreNumbered c.in_ok-columns.columns) ss) c.sets.ensures.value c.in_ok-columns.ensures,
  c.in_ok-tallies.ensures ∙ ap (map (entries_of c.in_ok-columns.columns)) c.sets-2.ensures.value,
)
