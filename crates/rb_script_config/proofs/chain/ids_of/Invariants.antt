use Rattle.std.proofs.Common.{◌≡◌, take}
use Rattle.rb_script_config.specs.Chains.{chain_ids}
use Rattle.rb_script_config.proofs.chain.ids_of.Given as goal

-- those so far
abbrev pub invariant-loop-chain : goal.invariant-loop-chain
invariant-loop-chain l = l.ids ≡ chain_ids (take l.chain-index l.chains)
