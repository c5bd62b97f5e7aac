use Rattle.std.proofs.Common.{List, map, rules, subst}
use Rattle.std.specs.List.Sorted.{IsPermutation}
use Rattle.std.proofs.lemmas.List.Sorted.{IsPermutation-map, IsNonDecreasingBy-from_sort_by_key}
use Rattle.rb_import_answers.specs.declared.commit.SignedHeader.{SignedHeader}
use Rattle.rb_import_check.specs.declared.chain.Commit.{Commit}
use Rattle.rb_import_check.specs.Chains.{Filed, filed}
use Rattle.rb_import_check.proofs.chain.commits_of.Goals as goal

pub returns-clause-headers : goal.returns-clause-headers
returns-clause-headers c =
    let P : List SignedHeader → Type 0 = λ xs. IsPermutation xs (map (λ (x : Commit). x.header.now) c.sort_by_key.new.self.items) in
    subst P c.in_ok-commits.ensures.headers (IsPermutation-map (λ (x : Commit). x.header.now) _ _ c.sort_by_key.ensures.permutation)

pub returns-clause-files : goal.returns-clause-files
returns-clause-files c =
    let P : List Filed → Type 0 = λ xs. IsPermutation xs (map filed c.sort_by_key.new.self.items) in
    subst P c.in_ok-commits.ensures.files (IsPermutation-map filed _ _ c.sort_by_key.ensures.permutation)

pub returns-clause-order : goal.returns-clause-order
returns-clause-order c = IsNonDecreasingBy-from_sort_by_key (λ (x : Commit). x.header.now.height) _ c.in_ok-sort_by_key.ensures.sorted (λ a r q k. search rules)
