use Rattle.std.proofs.Common.{All, take}
use Rattle.rb_import_check.specs.Chains.{FitsSet}
use Rattle.rb_import_check.proofs.chain.judge_signatures.Given as goal

-- the commits so far have their sets
abbrev pub invariant-loop-commit : goal.invariant-loop-commit
invariant-loop-commit l = All (FitsSet l.sets.sets.items) (take l.commit-index l.commits)
