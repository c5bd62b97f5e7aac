use Rattle.std.proofs.Common.{rules}
use Rattle.std.proofs.lemmas.List.Sorted.{IsNonDecreasingBy-from_sort_by_key}
use Rattle.rb_graph.specs.Frame.{FrameRow}
use Rattle.rb_graph.proofs.finish.sort_by_number.Goals as goal

pub returns-clause-ordered : goal.returns-clause-ordered
returns-clause-ordered g c =
    IsNonDecreasingBy-from_sort_by_key (λ (row : FrameRow). row.number) _ c.sort_unstable_by_key.ensures.sorted (λ a r q k. search rules)
