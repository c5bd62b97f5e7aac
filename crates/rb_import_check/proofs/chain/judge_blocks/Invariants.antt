use Rattle.std.proofs.Common.{All, take}
use Rattle.rb_import_check.specs.Chains.{IsOfItsBlock}
use Rattle.rb_import_check.proofs.chain.judge_blocks.Given as goal

-- the commits so far are for the blocks of their headers
abbrev pub invariant-loop-commit : goal.invariant-loop-commit
invariant-loop-commit l = All IsOfItsBlock (take l.commit-index l.commits)
