use Rattle.std.proofs.Common.{sym}
use Rattle.std.specs.Prelude.{◌==◌}
use Rattle.std.proofs.lemmas.List.Sorted.{IsNonDecreasingBy-from_sort, list_any-IsPermutation}
use Rattle.rb_want.proofs.packets.sorted.Goals as goal

pub returns : goal.returns
returns c =
    (IsNonDecreasingBy-from_sort (λ x. x) _ c.sort_unstable.ensures.sorted, λ n. sym (list_any-IsPermutation (λ m. m == n) _ _ c.sort_unstable.ensures.permutation))
