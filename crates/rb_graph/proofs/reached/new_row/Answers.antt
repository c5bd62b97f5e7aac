use Rattle.std.proofs.Common.{List, subst}
use Rattle.rb_valset.specs.Validator.{Member}
use Rattle.rb_graph.specs.Numbering.{AreLanesOf}
use Rattle.rb_graph.proofs.reached.new_row.Goals as goal

pub stored_row_by_columns-requires-2-clause-numbered : goal.stored_row_by_columns-requires-2-clause-numbered
stored_row_by_columns-requires-2-clause-numbered g c =
    let made = c.in_ok-made.made in
    (subst (λ (sets : List (List Member)). AreLanesOf sets made.columns made.tallies.items) c.sets.ensures.value c.in_ok-made.ensures).0

pub returns-clause-lanes : goal.returns-clause-lanes
returns-clause-lanes g c =
    let made = c.in_ok-made.made in
    subst (λ (sets : List (List Member)). AreLanesOf sets made.columns made.tallies.items) c.sets.ensures.value c.in_ok-made.ensures
