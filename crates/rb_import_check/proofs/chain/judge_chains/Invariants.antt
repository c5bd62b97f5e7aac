use Rattle.std.proofs.Common.{All, take}
use Rattle.rb_import_check.specs.Chains.{IsOfChain}
use Rattle.rb_import_check.proofs.chain.judge_chains.Given as goal

-- the commits so far are of the chain
abbrev pub invariant-loop-commit : goal.invariant-loop-commit
invariant-loop-commit l = All (IsOfChain l.id) (take l.commit-index l.commits)
