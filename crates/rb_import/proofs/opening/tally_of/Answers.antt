use Rattle.std.proofs.Common.{◌<◌, List, ◌++◌, length, take, rules, ap, sym, subst, ◌∙◌}
use Rattle.std.specs.List.{flat_map}
use Rattle.rb_import_check.specs.declared.chain.Commit.{Commit}
use Rattle.rb_import_check.specs.declared.chain.SeenChain.{SeenChain}
use Rattle.rb_import_check.proofs.Sorting.{taken}
use Rattle.rb_import.specs.Tallies.{IsTally}
use Rattle.rb_import.proofs.opening.tally_of.Goals as goal

abbrev commits_of : SeenChain → List Commit
commits_of chain = chain.commits.items

pub loop-chain-preserved : goal.loop-chain-preserved
loop-chain-preserved c =
    let items = c.deref-chain-items.result.now in
    let small : c.loop-chain.chain-index < length items = search rules in
    let before = flat_map commits_of (take c.loop-chain.chain-index items) in
    subst (λ l. IsTally l c.with_commits-tally.result)
    (ap (λ l. before ++ l) c.as_slice.ensures.value ∙ sym (taken commits_of items c.loop-chain.chain-index c.chain-item.result small c.chain-item.is))
    (c.with_commits-tally.ensures before c.loop-chain.invariant)
