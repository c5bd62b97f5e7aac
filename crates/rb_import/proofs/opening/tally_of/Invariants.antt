use Rattle.std.proofs.Common.{take}
use Rattle.std.specs.List.{flat_map}
use Rattle.rb_import_check.specs.declared.chain.SeenChain.{SeenChain}
use Rattle.rb_import.specs.Tallies.{IsTally}
use Rattle.rb_import.proofs.opening.tally_of.Given as goal

-- the commits of the chains so far are counted
abbrev pub invariant-loop-chain : goal.invariant-loop-chain
invariant-loop-chain l = IsTally (flat_map (λ (chain : SeenChain). chain.commits.items) (take l.chain-index l.chain-items)) l.tally
