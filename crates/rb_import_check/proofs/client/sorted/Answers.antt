use Rattle.std.proofs.Common.{rules}
use Rattle.std.proofs.lemmas.List.Sorted.{IsPermutation-map, IsNonDecreasingBy-from_sort_by_key}
use Rattle.rb_import_check.specs.declared.client.Stored.{Stored}
use Rattle.rb_import_check.specs.Clients.{filed_state}
use Rattle.rb_import_check.proofs.client.sorted.Goals as goal

pub returns-clause-same : goal.returns-clause-same
returns-clause-same c = IsPermutation-map (λ (x : Stored). x.state.now) _ _ c.sort_by_key.ensures.permutation

pub returns-clause-order : goal.returns-clause-order
returns-clause-order c = IsNonDecreasingBy-from_sort_by_key (λ (s : Stored). s.state.now.height) _ c.in_ok-sort_by_key.ensures.sorted (λ a r q k. search rules)

pub returns-clause-files : goal.returns-clause-files
returns-clause-files c = IsPermutation-map filed_state _ _ c.sort_by_key.ensures.permutation
